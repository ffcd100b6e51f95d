-- What is left of the pairs decides, and the parts so far lie within the book.
use Rattle.std.proofs.Common.{◌≡◌, ◌-◌, ◌≤◌, length}
use Rattle.book.specs.Layout.{is_book}
use Rattle.book.proofs.layout.PairByPair.{laid_out}
use Rattle.book.proofs.layout.is_book.Given as goal

abbrev pub invariant-loop-i : goal.invariant-loop-i
invariant-loop-i l = record { rest : is_book l.b ≡ laid_out l.b l.i l.at (l.n - l.i); within : l.at ≤ length l.b }
