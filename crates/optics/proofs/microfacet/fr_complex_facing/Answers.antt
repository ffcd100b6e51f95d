-- `optics::microfacet::fr_complex_facing` meets its contract: the calls give what their contracts promise, and the definition is read in the same order.
use Rattle.optics.specs.Fresnel.{fr_complex_facing}
use lib.Ieee.{of_bits}
use Rattle.optics.proofs.microfacet.fr_complex_facing.Goals as goal

pub returns : goal.returns
unfolding fr_complex_facing of_bits
returns c = rw (← c.complex_cos_i-cos_i.ensures, ← c.r_par-r_par.ensures, ← c.r_per-r_per.ensures, ← c.norm_sqr.ensures, ← c.norm_sqr-2.ensures)
