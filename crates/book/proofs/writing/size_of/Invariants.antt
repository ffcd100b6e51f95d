-- The size so far and that of what is left are the book's.
use Rattle.std.proofs.Common.{◌≡◌, ◌+◌, ◌*◌, ◌≤◌, length}
use Rattle.book.proofs.writing.Left.{left}
use Rattle.book.proofs.writing.Lengths.{joined}
use Rattle.book.proofs.writing.size_of.Given as goal

abbrev pub invariant-loop-i : goal.invariant-loop-i
invariant-loop-i l = record {
  parts : l.size.parts + length (left l.surfaces l.i) ≡ length (left l.surfaces 0);
  bytes : l.size.bytes + 8 * length (left l.surfaces l.i) + length (joined (left l.surfaces l.i))
      ≡ 4 + 8 * length (left l.surfaces 0) + length (joined (left l.surfaces 0));
  few : l.size.parts ≤ l.size.bytes;
  small : l.size.bytes ≤ 65536;
}
