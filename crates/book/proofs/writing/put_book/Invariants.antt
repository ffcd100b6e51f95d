-- What is left finishes the book, and its pairs and parts have their places.
use Rattle.std.proofs.Common.{◌≡◌, ◌+◌, ◌*◌, ◌≤◌, length, map}
use Rattle.numbers.specs.Written.{over}
use Rattle.book.specs.Book.{written}
use Rattle.book.specs.Record.{offered}
use Rattle.book.proofs.writing.Left.{left}
use Rattle.book.proofs.writing.Lengths.{joined}
use Rattle.book.proofs.writing.Finish.{finish}
use Rattle.book.proofs.writing.put_book.Given as goal

abbrev pub invariant-loop-i : goal.invariant-loop-i
invariant-loop-i l = record {
  finishes : finish l.buf l.pair l.at (left l.surfaces l.i) ≡ over (written (map offered l.surfaces)) l.fn.buf;
  apart : l.pair + 8 * length (left l.surfaces l.i) ≤ l.at;
  ends : l.at + length (joined (left l.surfaces l.i)) ≡ l.fn.size.bytes;
}
