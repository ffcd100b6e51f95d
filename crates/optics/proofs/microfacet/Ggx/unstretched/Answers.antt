-- `optics::microfacet::Ggx::unstretched` meets its contract: the calls give what their contracts promise, and the definition is read in the same order.
use Rattle.floats.specs.Float.{epsilon, decimal}
use Rattle.optics.specs.Sampler.{unstretched}
use lib.Ieee.{of_bits}
use Rattle.optics.proofs.microfacet.Ggx.unstretched.Goals as goal

pub returns : goal.returns
unfolding unstretched epsilon decimal of_bits
returns c = rw (← c.max.ensures, ← c.normalize.ensures)
