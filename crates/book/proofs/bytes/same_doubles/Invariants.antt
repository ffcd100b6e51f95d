-- So many are equal.
use Rattle.std.proofs.Common.{◌≡◌, true, drop}
use Rattle.book.specs.Bytes.{doubles_in}
use Rattle.book.specs.Surfaces.{same_values}
use Rattle.book.proofs.bytes.same_doubles.Given as goal

abbrev pub invariant-loop-i : goal.invariant-loop-i
invariant-loop-i l = same_values (doubles_in l.i (drop l.from l.a)) (doubles_in l.i (drop l.from l.b)) ≡ true
