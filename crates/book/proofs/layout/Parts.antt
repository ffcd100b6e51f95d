-- A book determines its parts (`parts_of_book`), is told by them (`is_book_of`, `book_is_book`), and has no more than 42 (`few_parts`). By induction on the parts, along
-- the places that the pairs and the parts have reached (`Laid`).
use Rattle.std.proofs.Common.{◌≡◌, ℕ, zero, suc, ◌+◌, ◌-◌, ◌*◌, ◌<◌, ◌≤◌, ◌^◌, true, leb, List, [], ◌∷◌, ◌++◌, length, take, drop, get_or, sum_by, bytes_eq, refl, sym, ap, ◌∙◌, arith, length-append, append_assoc, length-drop, flat_map, add-one}
use Rattle.std.specs.List.{list_all}
use Rattle.std.proofs.lemmas.Bool.{and_parts, and_from, leb-true, le-leb}
use Rattle.std.proofs.lemmas.List.{take_at, drop_at}
use Rattle.std.proofs.lemmas.List.Sums.{sum_by-cons}
use Rattle.std.proofs.lemmas.Slice.Eq.{bytes_eq-Decides}
use Rattle.book.specs.Bytes.{word, word_at}
use Rattle.book.specs.Layout.{book_max, surfaces_max, parts_start, pairs, book_of, count_in, part_at, parts_from, parts, is_part, is_book}
use Rattle.book.proofs.Doubles.{length-word}
use Rattle.book.proofs.layout.OnePart.{part_least}
use Rattle.book.proofs.layout.Words.{word_at-word, drop_further}

-- ---- lengths
pub length-pairs : (at : ℕ) (ps : List (List ℕ)) → length (pairs at ps) ≡ 8 * length ps
unfolding pairs
length-pairs at [] = refl
length-pairs at (p ∷ ps) =
    let h = length-pairs (at + length p) ps in
    omega (arith, length-append (word at ++ word (length p)) (pairs (at + length p) ps), length-append (word at) (word (length p)), length-word at, length-word (length p))

-- the parts of a book begin behind its pairs
pub length-book_of : (ps : List (List ℕ)) → length (book_of ps) ≡ parts_start (length ps) + length (flat_map (λ p. p) ps)
unfolding book_of
length-book_of ps =
    let n = length ps in
    let all = pairs (parts_start n) ps in
    omega (arith, length-append (word n ++ all) (flat_map (λ p. p) ps), length-append (word n) all, length-word n, length-pairs (parts_start n) ps)

-- and so it has 4 bytes, and for each part 8 and the part's
pub length-book_of_sum : (ps : List (List ℕ)) → length (book_of ps) ≡ 4 + sum_by (λ p. 8 + length p) ps
length-book_of_sum ps = omega (arith, length-book_of ps, each ps)
  where
    each : (ps : List (List ℕ)) → 8 * length ps + length (flat_map (λ p. p) ps) ≡ sum_by (λ p. 8 + length p) ps
    each [] = refl
    each (p ∷ ps) = omega (arith, each ps, length-append p (flat_map (λ p. p) ps), sum_by-cons (λ (p : List ℕ). 8 + length p) p ps)

-- ---- a book from the pair at i and the place `at` on: the pairs of these parts, and these parts
pub record Laid (b rest : List ℕ) (i at : ℕ) (ps : List (List ℕ)) : Type 0 where
  pub heads : drop (4 + 8 * i) b ≡ pairs at ps ++ rest
  pub bodies : drop at b ≡ flat_map (λ p. p) ps
  pub within : at ≤ length b

-- what its first pair says, and what is behind it
pub record First (b rest : List ℕ) (i at : ℕ) (p : List ℕ) (ps : List (List ℕ)) : Type 0 where
  pub offset : word_at b (4 + 8 * i) ≡ at
  pub size : word_at b (8 + 8 * i) ≡ length p
  pub ends : at + length p ≤ length b
  pub part : take (length p) (drop at b) ≡ p
  pub next : Laid b rest (suc i) (at + length p) ps

module _ (b rest : List ℕ) (room : length b < 2 ^ 32) where
  pub first_of : (i at : ℕ) (p : List ℕ) (ps : List (List ℕ)) → Laid b rest i at (p ∷ ps) → First b rest i at p ps
  unfolding pairs
  first_of i at p ps h =
      let more = pairs (at + length p) ps ++ rest in
      let here : drop (4 + 8 * i) b ≡ word at ++ (word (length p) ++ more) = h.heads ∙ simp append_assoc in
      let there : drop (8 + 8 * i) b ≡ word (length p) ++ more =
      drop_further b (4 + 8 * i) 4 (8 + 8 * i) (omega arith) ∙ ap (drop 4) here ∙ drop_at (word at) (word (length p) ++ more) 4 (length-word at) in
      let then : drop (4 + 8 * suc i) b ≡ more =
      drop_further b (8 + 8 * i) 4 (4 + 8 * suc i) (omega arith) ∙ ap (drop 4) there ∙ drop_at (word (length p)) more 4 (length-word (length p)) in
      let bodies = flat_map (λ q. q) ps in
      let ends : at + length p ≤ length b = omega (arith, ap length h.bodies, length-append p bodies, length-drop at b, h.within) in
      record {
        offset = word_at-word b _ _ at here (omega arith);
        size = word_at-word b _ _ (length p) there (omega arith);
        ends = ends;
        part = ap (take (length p)) h.bodies ∙ take_at p bodies _ refl;
        next = record {
          heads = then;
          bodies = drop_further b at (length p) _ refl ∙ ap (drop (length p)) h.bodies ∙ drop_at p bodies _ refl;
          within = ends;
        };
      }

  pub parts_from-Laid : (i at : ℕ) (ps : List (List ℕ)) → Laid b rest i at ps → parts_from b i (length ps) ≡ ps
  unfolding parts_from part_at
  parts_from-Laid i at [] h = refl
  parts_from-Laid i at (p ∷ ps) h =
      let f = first_of i at p ps h in
      rw (f.offset, f.size, f.part, parts_from-Laid (suc i) (at + length p) ps f.next) refl

-- ---- the whole book
pub book_laid : (ps : List (List ℕ)) → Laid (book_of ps) (flat_map (λ p. p) ps) 0 (parts_start (length ps)) ps
unfolding book_of
book_laid ps =
    let n = length ps in
    let all = pairs (parts_start n) ps in
    let bodies = flat_map (λ p. p) ps in
    record {
      heads = ap (drop 4) (append_assoc (word n) all bodies) ∙ drop_at (word n) (all ++ bodies) 4 (length-word n);
      bodies = drop_at (word n ++ all) bodies _ (omega (arith, length-append (word n) all, length-word n, length-pairs (parts_start n) ps));
      within = omega (arith, length-book_of ps);
    }

pub count_in-book_of : (ps : List (List ℕ)) → length (book_of ps) < 2 ^ 32 → count_in (book_of ps) ≡ length ps
unfolding book_of count_in
count_in-book_of ps room =
    let n = length ps in
    word_at-word (book_of ps) (pairs (parts_start n) ps ++ flat_map (λ p. p) ps) 0 n
    (append_assoc (word n) (pairs (parts_start n) ps) (flat_map (λ p. p) ps)) (omega (arith, length-book_of ps))

-- reading the parts of a book gives the parts
pub parts_of_book : (ps : List (List ℕ)) → length (book_of ps) < 2 ^ 32 → parts (book_of ps) ≡ ps
unfolding parts
parts_of_book ps room =
    rw (count_in-book_of ps room) (parts_from-Laid (book_of ps) (flat_map (λ p. p) ps) room 0 (parts_start (length ps)) ps (book_laid ps))

-- ---- what is accepted as a book is the book of its parts, and the book of parts is accepted
pub record IsBook (b : List ℕ) : Type 0 where
  pub is : b ≡ book_of (parts b)
  pub short : length b ≤ book_max
  pub all_parts : list_all is_part (parts b) ≡ true

pub is_book_of : (b : List ℕ) → is_book b ≡ true → IsBook b
unfolding is_book
is_book_of b h =
    let tests = and_parts _ (list_all is_part (parts b)) h in
    let first = and_parts (leb (length b) book_max) (bytes_eq b (book_of (parts b))) tests.0 in
    record { is = (bytes_eq-Decides b (book_of (parts b))).0 first.1; short = leb-true (length b) book_max first.0; all_parts = tests.1 }

pub is_book-IsBook : (b : List ℕ) → IsBook b → is_book b ≡ true
unfolding is_book
is_book-IsBook b h =
    and_from _ _ (and_from _ _ (le-leb (length b) book_max h.short) ((bytes_eq-Decides b (book_of (parts b))).1 h.is)) h.all_parts

pub book_is_book : (ps : List (List ℕ)) → list_all is_part ps ≡ true → length (book_of ps) ≤ book_max → is_book (book_of ps) ≡ true
book_is_book ps all short =
    let same : parts (book_of ps) ≡ ps = parts_of_book ps (omega arith) in
    is_book-IsBook (book_of ps) (record { is = ap book_of (sym same); short = short; all_parts = rw same all })

-- ---- each part with its pair has 1,539 bytes at least, so that there are no more than 42
all_parts_least : (ps : List (List ℕ)) → list_all is_part ps ≡ true → 1539 * length ps ≤ sum_by (λ p. 8 + length p) ps
all_parts_least [] all = omega arith
all_parts_least (p ∷ ps) all =
    let tests = and_parts (is_part p) (list_all is_part ps) all in
    omega (arith, sum_by-cons (λ (p : List ℕ). 8 + length p) p ps, part_least p tests.0, all_parts_least ps tests.1)

pub few_parts : (b : List ℕ) → is_book b ≡ true → length (parts b) ≤ surfaces_max
few_parts b h =
    let is = is_book_of b h in
    omega (arith, ap length is.is, length-book_of_sum (parts b), all_parts_least (parts b) is.all_parts, is.short)

-- ---- the parts, one by one
pub length-parts_from : (b : List ℕ) (i n : ℕ) → length (parts_from b i n) ≡ n
unfolding parts_from
length-parts_from b i zero = refl
length-parts_from b i (suc n) = ap suc (length-parts_from b (suc i) n)

pub length-parts : (b : List ℕ) → length (parts b) ≡ count_in b
unfolding parts
length-parts b = length-parts_from b 0 (count_in b)

get_or-parts_from : (b : List ℕ) (i j n k : ℕ) (d : List ℕ) → j < n → i + j ≡ k → get_or (parts_from b i n) j d ≡ part_at b k
unfolding parts_from
get_or-parts_from b i j zero k d l e = absurd (omega arith)
get_or-parts_from b i zero (suc n) k d l e = ap (part_at b) (omega arith)
get_or-parts_from b i (suc j) (suc n) k d l e = get_or-parts_from b (suc i) j n k d (omega arith) (omega arith)

pub get_or-parts : (b : List ℕ) (i : ℕ) (d : List ℕ) → i < count_in b → get_or (parts b) i d ≡ part_at b i
unfolding parts
get_or-parts b i d l = get_or-parts_from b 0 i (count_in b) i d l (omega arith)

-- a turn of a loop over n parts, and its end
pub parts_from_more : (b : List ℕ) (i n : ℕ) → i < n → parts_from b i (n - i) ≡ part_at b i ∷ parts_from b (i + 1) (n - (i + 1))
unfolding parts_from
parts_from_more b i n l =
    let more : n - i ≡ suc (n - (i + 1)) = omega arith in
    rw (more, add-one) refl

pub parts_from_all : (b : List ℕ) (i n : ℕ) → n ≤ i → parts_from b i (n - i) ≡ []
unfolding parts_from
parts_from_all b i n l =
    let none : n - i ≡ 0 = omega arith in
    rw none refl
