-- `path::many::put` meets its contract: the first j numbers are in their places.
use Rattle.std.proofs.Common.{◌≡◌}
use lib.Seq.{paste}
use Rattle.path.proofs.many.put.Given as goal

abbrev pub invariant-loop-j : goal.invariant-loop-j
invariant-loop-j l = l.output ≡ paste l.initial.output l.at l.numbers l.j
