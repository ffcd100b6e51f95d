-- A book written part by part: the pairs of the parts that are left, and these parts, finish it (`finish`). Behind the count they are the
-- book over the front of the buffer (`begun`), and a part that is put with its pair leaves it to the others (`gone_on`): the pairs of the
-- others and the part stand apart.
use Rattle.std.proofs.Common.{◌≡◌, ℕ, ◌+◌, ◌*◌, ◌<◌, ◌≤◌, true, List, [], ◌∷◌, ◌++◌, map, length, get_or, arith, refl, sym, ◌∙◌, length-append, zero-add}
use Rattle.std.proofs.Math.Seq.{sets, length-sets}
use Rattle.numbers.specs.Written.{over}
use Rattle.book.specs.Bytes.{word, put}
use Rattle.book.specs.Layout.{parts_start, pairs, book_of}
use Rattle.book.specs.Surfaces.{part_bytes}
use Rattle.book.specs.Book.{distinct, surfaces_of, written}
use Rattle.book.specs.Steps.{is_new}
use Rattle.book.specs.Record.{Record, surface_of, offered}
use Rattle.book.proofs.writing.Left.{left, left_new, written_is}
use Rattle.book.proofs.Doubles.{length-word}
use Rattle.book.proofs.layout.Parts.{length-pairs, length-book_of}
use Rattle.book.proofs.bytes.Sets.{put_is, behind, sets_next, sets_apart}
use Rattle.book.proofs.writing.Lengths.{joined, one_less, shorter, all_parts}

abbrev pub finish : List ℕ → ℕ → ℕ → List (List ℕ) → List ℕ
finish d pair at ps = sets (sets d pair (pairs at ps)) at (joined ps)

pub finished : (d : List ℕ) (pair at : ℕ) → finish d pair at [] ≡ d
unfolding pairs
finished d pair at = refl

-- a part with its pair, as two words of four bytes
pub length-pair : (at n : ℕ) → length (word at ++ word n) ≡ 8
length-pair at n = omega (arith, length-append (word at) (word n), length-word at, length-word n)

pub pair_put : (d one two : List ℕ) (pair at n : ℕ) → one ≡ put d pair (word at) → two ≡ put one (pair + 4) (word n)
    → pair + 8 ≤ length d → two ≡ put d pair (word at ++ word n)
pair_put d one two pair at n first second room =
    let a = length-word at in
    let b = length-word n in
    behind d one two (word at) (word n) pair (pair + 4) first second (omega arith) (omega arith)

one_part : (d new : List ℕ) (pair at : ℕ) (p : List ℕ) (ps : List (List ℕ))
    → new ≡ put (put d pair (word at ++ word (length p))) at p
    → pair + 8 + 8 * length ps ≤ at → at + length p ≤ length d → finish new (pair + 8) (at + length p) ps ≡ finish d pair at (p ∷ ps)
unfolding pairs
one_part d new pair at p ps is apart room =
    let words = word at ++ word (length p) in
    let eight = length-pair at (length p) in
    let rest = pairs (at + length p) ps in
    let b = sets d pair words in
    rw (
      is,
      put_is d pair words (omega arith),
      put_is b at p (rw length-sets room),
      ← sets_apart b (pair + 8) rest at p (omega (arith, length-pairs (at + length p) ps)),
      sets_next (sets b (pair + 8) rest) at (at + length p) p (joined ps) refl,
      sets_next d pair (pair + 8) words rest (omega arith),
    )

-- put at the front, it stands over what was there
front_put : (d s : List ℕ) → length s ≤ length d → sets d 0 s ≡ over s d
unfolding put over
front_put d s room = sym (put_is d 0 s (omega arith)) ∙ rw zero-add

-- the count, and then all
from_count : (d : List ℕ) (ps : List (List ℕ)) → length (book_of ps) ≤ length d
    → finish (put d 0 (word (length ps))) 4 (parts_start (length ps)) ps ≡ over (book_of ps) d
unfolding over book_of
from_count d ps room =
    let n = length ps in
    let count = word n in
    let all = pairs (parts_start n) ps in
    let four : 4 ≡ 0 + length count = omega (arith, length-word n) in
    let start : parts_start n ≡ 0 + length (count ++ all) = omega (arith, length-append count all, length-word n, length-pairs (parts_start n) ps) in
    rw (
      put_is d 0 count (omega (arith, length-book_of ps, length-word n)),
      sets_next d 0 4 count all four,
      sets_next d 0 (parts_start n) (count ++ all) (joined ps) start,
      front_put d (book_of ps) room,
    )

-- ---- of surfaces
pub begun : (rs : List Record) (d one : List ℕ) (n at : ℕ)
    → n ≡ length (distinct (surfaces_of (map offered rs))) → one ≡ put d 0 (word n) → at ≡ 4 + 8 * n
    → length (written (map offered rs)) ≤ length d → finish one 4 at (left rs 0) ≡ over (written (map offered rs)) d
begun rs d one n at count first start room =
    rw (first, start, count, all_parts rs, written_is rs) (from_count d (left rs 0) (rw written_is at room))

pub gone_on : (rs : List Record) (i : ℕ) (e : Record) (d new : List ℕ) (pair at end : ℕ) → i < length rs → is_new (map surface_of rs) i ≡ true
    → (let p = part_bytes (surface_of (get_or rs i e)) in (new ≡ put (put d pair (word at ++ word (length p))) at p) × (end ≡ at + length p))
    → pair + 8 * length (left rs i) ≤ at → at + length (joined (left rs i)) ≤ length d
    → (finish new (pair + 8) end (left rs (i + 1)) ≡ finish d pair at (left rs i))
    × (end + length (joined (left rs (i + 1))) ≡ at + length (joined (left rs i)))
gone_on rs i e d new pair at end within new_one is apart room =
    let p = part_bytes (surface_of (get_or rs i e)) in
    let less = one_less rs i within new_one in
    let bytes = shorter rs i e within new_one in
    (rw (left_new rs i e within new_one, is.1) (one_part d new pair at p (left rs (i + 1)) is.0 (omega arith) (omega arith)), omega arith)
