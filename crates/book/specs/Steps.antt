-- Forms of the definitions that the loops of the code go by. Definitions only.
use Rattle.std.specs.Prelude.{ℕ, Bool, true, not, List, [], ◌∷◌, take, drop}
use Rattle.std.specs.List.{list_any}
use Rattle.book.specs.Surfaces.{BookSurface, equal_for_writing}

-- whether the first of these is equal to none that came before
unfoldable pub first_new : List BookSurface → List BookSurface → Bool
first_new before [] = true
first_new before (s ∷ ss) = not (list_any (equal_for_writing s) before)

-- whether the one at i is equal to no earlier one
unfoldable pub is_new : List BookSurface → ℕ → Bool
is_new ss i = first_new (take i ss) (drop i ss)
