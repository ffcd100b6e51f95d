-- `book_path::faced` meets its contract: the flag is the definition's. By hand, so that another flag shows two sides.
use Rattle.std.proofs.Common.{refl}
use Rattle.book_path.specs.BookBounce.{faced}
use Rattle.book_path.proofs.faced.Goals as goal

pub returns : goal.returns
unfolding faced
returns c = rw (← c.ignores_backface.ensures) refl
