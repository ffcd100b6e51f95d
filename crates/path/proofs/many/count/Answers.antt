-- `path::many::count` meets its contract: the least of the two quotients, each of which times its divisor is at most the number divided.
use Rattle.std.proofs.Common.{refl, arith}
use Rattle.path.specs.Many.{count_of}
use Rattle.path.proofs.many.count.Goals as goal

pub returns : goal.returns
unfolding count_of
returns c = (rw c.min.ensures refl, omega arith, omega arith)
