-- So many records are stored.
use Rattle.std.proofs.Common.{◌≡◌}
use Rattle.book.proofs.reading.Stored.{stored}
use Rattle.book.proofs.reading.read.Given as goal

abbrev pub invariant-loop-i : goal.invariant-loop-i
invariant-loop-i l = l.out ≡ stored l.b l.first l.i l.initial.out
