-- `floats::float::within` meets its contract: by the tests, in the order of the definition.
use Rattle.std.proofs.Common.{refl}
use Rattle.floats.specs.Float.{within}
use Rattle.floats.proofs.float.within.Goals as goal

pub returns-then-lo-x : goal.returns-then-lo-x
unfolding within
returns-then-lo-x c = rw c.if-lo-x.true refl

pub returns-else-lo-x : goal.returns-else-lo-x
unfolding within
returns-else-lo-x c = rw c.if-lo-x.false
