-- `book_path::ignores_backface` meets its contract of metal: the surface's flag. By hand, so that another one shows two sides.
use Rattle.std.proofs.Common.{refl}
use Rattle.book_path.specs.BookBounce.{ignores_backface}
use Rattle.book_path.proofs.ignores_backface.Goals as goal

pub returns-in-Metal : goal.returns-in-Metal
unfolding ignores_backface
returns-in-Metal c = rw (← c.kind.ensures, c.in-Metal.is, c.is_two_sided.ensures) refl
