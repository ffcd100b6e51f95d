-- `optics::microfacet::chi_pass_at` meets its contract: the calls give what their contracts promise, and the definition is read in the same order.
use Rattle.floats.specs.Float.{epsilon, decimal}
use Rattle.numbers.specs.SphericalUtils.{cos_theta}
use Rattle.optics.specs.SharedTerms.{chi_pass_at}
use lib.Ieee.{of_bits}
use Rattle.optics.proofs.microfacet.chi_pass_at.Goals as goal

pub returns : goal.returns
unfolding chi_pass_at cos_theta epsilon decimal of_bits
returns c = rw (← c.signum.ensures)
