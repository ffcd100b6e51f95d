-- `optics::microfacet::Ggx::disney_diffuse` meets its contract: the calls give what their contracts promise, and the definition is read in the same order.
use Rattle.floats.specs.Float.{powi2, decimal}
use Rattle.optics.specs.Facets.{disney_diffuse, fd90, energy_factor}
use lib.Ieee.{of_bits}
use Rattle.optics.proofs.microfacet.Ggx.disney_diffuse.Goals as goal

pub returns : goal.returns
unfolding disney_diffuse fd90 energy_factor powi2 decimal of_bits
returns c = rw (← c.f_schlick-view_scatter.ensures, ← c.f_schlick-light_scatter.ensures)
