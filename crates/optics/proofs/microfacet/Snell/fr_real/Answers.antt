-- `optics::microfacet::Snell::fr_real` meets its contract: the calls give what their contracts promise, and the definition is read in the same order.
use Rattle.optics.specs.Fresnel.{is_total, unpolarized, contrast, mean_square}
use Rattle.optics.specs.SharedTerms.{fr_real_from}
use lib.Ieee.{of_bits}
use Rattle.optics.proofs.microfacet.Snell.fr_real.Goals as goal

pub returns : goal.returns
unfolding fr_real_from is_total unpolarized contrast mean_square of_bits
returns c = rw (c.if-self.false, ← c.abs-cos_o.ensures)
