-- Whether a surface is equal to no earlier one (`new_at`), and the parts that are left to be written from a place on (`left`): that of a
-- new surface comes first (`left_new`), another is left out (`left_out`). All of them make the book (`written_is`).
use Rattle.std.proofs.Common.{◌≡◌, ℕ, ◌+◌, ◌<◌, ◌≤◌, Bool, true, false, cond, not, List, [], ◌∷◌, ◌++◌, map, length, get_or, take, drop, arith, refl}
use Rattle.std.proofs.lemmas.List.{drop_more, drop_all, take_more, drop-map, take-map, get_or-map, length-map}
use Rattle.std.proofs.lemmas.Simd.{map-map}
use Rattle.std.specs.List.{list_any}
use Rattle.book.specs.Layout.{new_after, book_of}
use Rattle.book.specs.Surfaces.{BookSurface, part_bytes, equal_for_writing}
use Rattle.book.specs.Book.{distinct, surfaces_of, written}
use Rattle.book.specs.Steps.{is_new, first_new}
use Rattle.book.specs.Record.{Record, surface_of, offered}
use Rattle.book.proofs.Repetition.{list_any-map}

pub new_at : (rs : List Record) (i : ℕ) (d : Record) → i < length rs
    → is_new (map surface_of rs) i ≡ not (list_any (λ r. equal_for_writing (surface_of (get_or rs i d)) (surface_of r)) (take i rs))
unfolding is_new first_new
new_at rs i d within =
    let s = surface_of (get_or rs i d) in
    rw (drop-map surface_of i rs, drop_more rs i d within, take-map surface_of i rs, list_any-map (equal_for_writing s) surface_of (take i rs))

-- ---- what is left, less what is equal to an earlier one
abbrev pub rest : List BookSurface → ℕ → List BookSurface
rest ss i = new_after equal_for_writing (take i ss) (drop i ss)

turned : (b : Bool) (x y : List BookSurface) → cond b x y ≡ cond (not b) y x
turned true x y = refl
turned false x y = refl

one_more : (ss : List BookSurface) (i : ℕ) (d : BookSurface) → i < length ss
    → rest ss i ≡ cond (is_new ss i) (get_or ss i d ∷ rest ss (i + 1)) (rest ss (i + 1))
unfolding new_after is_new first_new
one_more ss i d within =
    let s = get_or ss i d in
    let more = new_after equal_for_writing (take i ss ++ s ∷ []) (drop (i + 1) ss) in
    rw (drop_more ss i d within, take_more ss i d within) (turned (list_any (equal_for_writing s) (take i ss)) more (s ∷ more))

-- as parts, of records
abbrev pub left : List Record → ℕ → List (List ℕ)
left rs i = map part_bytes (rest (map surface_of rs) i)

left_more : (rs : List Record) (i : ℕ) (d : Record) → i < length rs
    → (let more = rest (map surface_of rs) (i + 1) in left rs i ≡ map part_bytes (cond (is_new (map surface_of rs) i) (surface_of (get_or rs i d) ∷ more) more))
left_more rs i d within =
    rw (one_more (map surface_of rs) i (surface_of d) (rw length-map within), get_or-map surface_of rs i d (surface_of d) within)

pub left_new : (rs : List Record) (i : ℕ) (d : Record) → i < length rs → is_new (map surface_of rs) i ≡ true
    → left rs i ≡ part_bytes (surface_of (get_or rs i d)) ∷ left rs (i + 1)
left_new rs i d within new = rw (left_more rs i d within, new)

pub left_out : (rs : List Record) (i : ℕ) → i < length rs → is_new (map surface_of rs) i ≡ false → left rs i ≡ left rs (i + 1)
left_out [] i within old = absurd (omega arith)
left_out (r ∷ rs) i within old = rw (left_more (r ∷ rs) i r within, old)

pub none_left : (rs : List Record) (i : ℕ) → length rs ≤ i → left rs i ≡ []
unfolding new_after
none_left rs i h = rw (drop-map surface_of i rs, drop_all i rs h)

pub distinct_is : (rs : List Record) → distinct (surfaces_of (map offered rs)) ≡ rest (map surface_of rs) 0
unfolding distinct surfaces_of offered
distinct_is rs = rw (map-map (λ o. o.surface) offered rs)

pub written_is : (rs : List Record) → written (map offered rs) ≡ book_of (left rs 0)
unfolding written
written_is rs = rw (distinct_is rs)
