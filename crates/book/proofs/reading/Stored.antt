-- The records that are stored: one more (`stored_more`), and all that there are places for (`stored_all`). An accepted book is laid out as
-- one (`accepted_is_book`).
use Rattle.std.proofs.Common.{◌≡◌, ℕ, ◌+◌, ◌-◌, ◌<◌, true, min, List, take, drop, set, map, get_or, length, arith, sym, ap, ◌∙◌}
use Rattle.std.proofs.lemmas.List.{length-drop, length-map, length-take-le, get_or-drop, get_or-map, map_more, take_min}
use Rattle.std.proofs.lemmas.Bool.{and_parts}
use lib.Ieee.Bits.{is_true}
use Rattle.numbers.specs.Refusal.{accepted}
use Rattle.numbers.specs.Written.{over}
use Rattle.numbers.proofs.refusal.Checks.{test_passed, first_passed}
use Rattle.book.specs.Layout.{count_in, part_at, parts, is_book, none_equal}
use Rattle.book.specs.Surfaces.{surface_in, equal_for_reading}
use Rattle.book.specs.Book.{surfaces_in, check_book}
use Rattle.book.specs.Record.{Record, record_of}
use Rattle.book.proofs.Over.{over_more}
use Rattle.book.proofs.layout.Parts.{length-parts, get_or-parts}

pub accepted_is_book : (b : List ℕ) → accepted ≡ check_book b → is_book b ≡ true
unfolding check_book
accepted_is_book b is =
    (and_parts (is_book b) (none_equal equal_for_reading (parts b)) (is_true _ (test_passed 14 _ (first_passed _ _ (sym is))))).0

pub length-surfaces_in : (b : List ℕ) → length (surfaces_in b) ≡ count_in b
unfolding surfaces_in
length-surfaces_in b = length-map (parts b) surface_in ∙ length-parts b

surface_at : (b : List ℕ) (first i : ℕ) → first + i < count_in b
    → get_or (drop first (surfaces_in b)) i (surface_in (part_at b 0)) ≡ surface_in (part_at b (first + i))
unfolding surfaces_in
surface_at b first i within =
    let d = part_at b 0 in
    get_or-drop first (map surface_in (parts b)) i (surface_in d)
    ∙ get_or-map surface_in (parts b) (first + i) d (surface_in d) (rw length-parts within)
    ∙ ap surface_in (get_or-parts b (first + i) d within)

-- the first i records from the one at `first` on, over the front of memory
abbrev pub stored : List ℕ → ℕ → ℕ → List Record → List Record
stored b first i before = over (map record_of (take i (drop first (surfaces_in b)))) before

rest_long : (b : List ℕ) (first : ℕ) → length (drop first (surfaces_in b)) ≡ count_in b - first
rest_long b first = rw (length-drop, length-surfaces_in b)

pub stored_more : (b : List ℕ) (first i : ℕ) (before : List Record) → first + i < count_in b → i < length before
    → set (stored b first i before) i (record_of (surface_in (part_at b (first + i)))) ≡ stored b first (i + 1) before
stored_more b first i before within room =
    let ss = drop first (surfaces_in b) in
    let long : length ss ≡ count_in b - first = rest_long b first in
    rw (map_more record_of ss i (surface_in (part_at b 0)) (omega arith), surface_at b first i within)
    (over_more (map record_of (take i ss)) before _ i (rw length-map (length-take-le i ss (omega arith))) room)

pub stored_all : (b : List ℕ) (first i : ℕ) (before : List Record) → i ≡ min (count_in b - first) (length before)
    → stored b first i before ≡ stored b first (length before) before
stored_all b first i before all =
    let ss = drop first (surfaces_in b) in
    let count : i ≡ min (length before) (length ss) = rw (rest_long b first) (omega arith) in
    rw (count, take_min (length before) ss)
