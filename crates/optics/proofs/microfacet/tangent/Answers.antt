-- `optics::microfacet::tangent` meets its contract: the calls give what their contracts promise, and the definition is read in the same order.
use Rattle.floats.specs.Float.{epsilon, decimal}
use Rattle.optics.specs.Sampler.{tangent}
use lib.Ieee.{of_bits}
use Rattle.optics.proofs.microfacet.tangent.Goals as goal

pub returns-then-v : goal.returns-then-v
unfolding tangent epsilon decimal of_bits
returns-then-v c = rw c.if-v.true

pub returns : goal.returns
unfolding tangent epsilon decimal of_bits
returns c = rw (c.if-v.false, ← c.cross.ensures, ← c.normalize.ensures)
