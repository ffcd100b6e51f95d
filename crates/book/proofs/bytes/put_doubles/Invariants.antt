-- What is left to be put makes the buffer what all makes it.
use Rattle.std.proofs.Common.{◌≡◌, ◌+◌, ◌*◌, drop}
use Rattle.std.proofs.Math.Seq.{sets}
use Rattle.book.specs.Bytes.{doubles}
use Rattle.book.proofs.bytes.put_doubles.Given as goal

abbrev pub invariant-loop-i : goal.invariant-loop-i
invariant-loop-i l = sets l.buf (l.at + 8 * l.i) (doubles (drop l.i l.xs)) ≡ sets l.initial.buf l.at (doubles l.xs)
