-- So many places are filled.
use Rattle.std.proofs.Common.{◌≡◌, drop}
use Rattle.book.specs.Bytes.{doubles_in}
use Rattle.book.specs.Record.{laid}
use Rattle.book.proofs.bytes.spectrum.Given as goal

abbrev pub invariant-loop-i : goal.invariant-loop-i
invariant-loop-i l = l.places ≡ laid (doubles_in l.i (drop l.from l.b))
