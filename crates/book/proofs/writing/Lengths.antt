-- How much less is left behind a new surface (`one_less`, `shorter`), and how many parts and bytes there are in all (`all_parts`,
-- `all_bytes`). The loops over the surfaces go by these alone (`counting`).
use Rattle.std.proofs.Common.{◌≡◌, ℕ, ◌+◌, ◌*◌, ◌<◌, true, List, [], ◌∷◌, map, length, get_or, arith, sym, length-append}
use Rattle.std.proofs.lemmas.List.{length-map}
use Rattle.std.specs.List.{flat_map}
use Rattle.book.specs.Surfaces.{part_bytes}
use Rattle.book.specs.Book.{distinct, surfaces_of, written}
use Rattle.book.specs.Steps.{is_new}
use Rattle.book.specs.Record.{Record, surface_of, offered}
use Rattle.book.proofs.layout.Parts.{length-book_of}
use Rattle.book.proofs.writing.Left.{left, left_new, left_out, none_left, distinct_is, written_is}

abbrev pub joined : List (List ℕ) → List ℕ
joined ps = flat_map (λ p. p) ps

-- one part more
pub one_less : (rs : List Record) (i : ℕ) → i < length rs → is_new (map surface_of rs) i ≡ true → length (left rs i) ≡ length (left rs (i + 1)) + 1
one_less [] i within new = absurd (omega arith)
one_less (r ∷ rs) i within new = rw (left_new (r ∷ rs) i r within new) (omega arith)

pub shorter : (rs : List Record) (i : ℕ) (d : Record) → i < length rs → is_new (map surface_of rs) i ≡ true
    → length (part_bytes (surface_of (get_or rs i d))) + length (joined (left rs (i + 1))) ≡ length (joined (left rs i))
shorter rs i d within new =
    rw (left_new rs i d within new) (sym (length-append (part_bytes (surface_of (get_or rs i d))) (joined (left rs (i + 1)))))

-- the lengths of all
pub all_parts : (rs : List Record) → length (distinct (surfaces_of (map offered rs))) ≡ length (left rs 0)
all_parts rs = rw (distinct_is rs, length-map)

pub all_bytes : (rs : List Record) → length (written (map offered rs)) ≡ 4 + 8 * length (left rs 0) + length (joined (left rs 0))
all_bytes rs = rw (written_is rs, length-book_of)

pub ruleset counting = (one_less, shorter, left_out, none_left, all_parts, all_bytes)
