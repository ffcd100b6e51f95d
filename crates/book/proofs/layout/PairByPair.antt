-- The test of a book pair by pair, as the code goes (`laid_out`), is the test of the whole (`laid_test`): what passes has its pairs and
-- its parts where they stand in the book of its parts. By induction on the pairs.
use Rattle.std.proofs.Common.{◌≡◌, ◌==◌, ℕ, zero, suc, ◌+◌, ◌-◌, ◌*◌, ◌<◌, ◌≤◌, Bool, true, ◌&&◌, leb, List, [], ◌∷◌, ◌++◌, length, take, drop, refl, sym, ap, ◌∙◌, arith, append_assoc, flat_map, take-append-drop, subst, length-drop, length-take-le, drop-drop, add-one}
use Rattle.std.specs.List.{list_all}
use Rattle.std.proofs.Math.Nat.{add-sub_cancel_left}
use Rattle.std.proofs.lemmas.Bool.{and_parts, and_from, leb-true, le-leb, eqb-true, eq-eqb}
use Rattle.std.proofs.lemmas.Bool.Decides.{same_from_decides}
use Rattle.std.proofs.lemmas.List.{drop_all}
use Rattle.book.specs.Bytes.{word, word_at, AreBytes}
use Rattle.book.specs.Layout.{book_max, parts_start, pairs, book_of, count_in, part_at, parts_from, parts, is_part, is_book}
use Rattle.book.proofs.layout.Words.{word_front}
use Rattle.book.proofs.layout.Parts.{Laid, first_of, book_laid, length-book_of, length-parts, is_book_of, is_book-IsBook}

-- n pairs from the one at i on: each offset is where the part before ends, at first `at`, and the last part ends with the book
unfoldable pub laid_out : List ℕ → ℕ → ℕ → ℕ → Bool
laid_out b i at zero = at == length b
laid_out b i at (suc n) =
    word_at b (4 + 8 * i) == at && leb (at + word_at b (8 + 8 * i)) (length b)
    && is_part (take (word_at b (8 + 8 * i)) (drop at b)) && laid_out b (suc i) (at + word_at b (8 + 8 * i)) n

-- what the test tells of the first pair
pub record Passed (b : List ℕ) (i at n : ℕ) : Type 0 where
  pub offset : word_at b (4 + 8 * i) ≡ at
  pub ends : at + word_at b (8 + 8 * i) ≤ length b
  pub is : part_at b i ≡ take (word_at b (8 + 8 * i)) (drop at b)
  pub part : is_part (part_at b i) ≡ true
  pub next : laid_out b (suc i) (at + word_at b (8 + 8 * i)) n ≡ true

pub passed : (b : List ℕ) (i at n : ℕ) → laid_out b i at (suc n) ≡ true → Passed b i at n
unfolding laid_out part_at
passed b i at n h =
    let size = word_at b (8 + 8 * i) in
    let three = and_parts _ (laid_out b (suc i) (at + size) n) h in
    let two = and_parts _ (is_part (take size (drop at b))) three.0 in
    let one = and_parts (word_at b (4 + 8 * i) == at) (leb (at + size) (length b)) two.0 in
    let offset = eqb-true (word_at b (4 + 8 * i)) at one.0 in
    record { offset = offset; ends = leb-true _ _ one.1; is = rw offset refl; part = rw offset two.1; next = three.1 }

-- ---- a book passes
pub Laid-passes : (b rest : List ℕ) (i at : ℕ) (ps : List (List ℕ)) → length b ≤ book_max
    → list_all is_part ps ≡ true → Laid b rest i at ps → laid_out b i at (length ps) ≡ true
unfolding laid_out
Laid-passes b rest i at [] room all h =
    eq-eqb at (length b) (omega (arith, ap length h.bodies, length-drop at b, h.within))
Laid-passes b rest i at (p ∷ ps) room all h =
    let f = first_of b rest (omega arith) i at p ps h in
    let tests = and_parts (is_part p) (list_all is_part ps) all in
    rw (f.offset, f.size, f.part, tests.0, eq-eqb at at refl, le-leb _ _ f.ends) (Laid-passes b rest (suc i) (at + length p) ps room tests.1 f.next)

-- ---- what passes is a book
record Read (b rest : List ℕ) (i at n : ℕ) : Type 0 where
  laid : Laid b rest i at (parts_from b i n)
  all : list_all is_part (parts_from b i n) ≡ true

passes-Laid : (b : List ℕ) (k i at n : ℕ) → AreBytes b → 4 + 8 * (i + n) ≡ k → k ≤ length b
    → laid_out b i at n ≡ true → Read b (drop k b) i at n
unfolding laid_out parts_from pairs
passes-Laid b k i at zero bytes e room h =
    let end = eqb-true at (length b) h in
    record {
      laid = record { heads = ap (λ (m : ℕ). drop m b) (omega arith); bodies = drop_all at b (omega arith); within = omega arith };
      all = refl;
    }
passes-Laid b k i at (suc n) bytes e room h =
    let t = passed b i at n h in
    let size = word_at b (8 + 8 * i) in
    let r = passes-Laid b k (suc i) (at + size) n bytes (omega arith) room t.next in
    let long : length (part_at b i) ≡ size = ap length t.is ∙ length-take-le size (drop at b) (omega (arith, length-drop at b, t.ends)) in
    let heads : drop (4 + 8 * i) b ≡ word at ++ (word size ++ (pairs (at + size) (parts_from b (suc i) n) ++ drop k b)) =
    word_front b (4 + 8 * i) (8 + 8 * i) bytes (omega arith) (omega arith)
    ∙ rw (t.offset, word_front b (8 + 8 * i) (4 + 8 * suc i) bytes (omega arith) (omega arith), r.laid.heads) refl in
    record {
      laid = record {
        heads = rw long (heads ∙ simp append_assoc);
        bodies = sym (take-append-drop size (drop at b)) ∙ rw (← t.is, drop-drop size at b, r.laid.bodies) refl;
        within = omega (arith, t.ends);
      };
      all = and_from _ _ t.part r.all;
    }

-- ---- the whole book
pub record LaidOut (b : List ℕ) : Type 0 where
  pub counted : 4 ≤ length b
  pub short : length b ≤ book_max
  pub room : parts_start (count_in b) ≤ length b
  pub pairs : laid_out b 0 (parts_start (count_in b)) (count_in b) ≡ true

pub laid_out_in : (b : List ℕ) → is_book b ≡ true → LaidOut b
laid_out_in b h =
    let is = is_book_of b h in
    let ps = parts b in
    let n : length ps ≡ count_in b = length-parts b in
    let l : length b ≡ parts_start (length ps) + length (flat_map (λ p. p) ps) = ap length is.is ∙ length-book_of ps in
    let laid : Laid b (flat_map (λ p. p) ps) 0 (parts_start (length ps)) ps =
    subst (λ (c : List ℕ). Laid c (flat_map (λ p. p) ps) 0 (parts_start (length ps)) ps) (sym is.is) (book_laid ps) in
    record {
      counted = omega arith;
      short = is.short;
      room = omega arith;
      pairs = rw (← n) (Laid-passes b _ 0 _ ps is.short is.all_parts laid);
    }

pub book_from : (b : List ℕ) → AreBytes b → LaidOut b → is_book b ≡ true
unfolding book_of parts count_in
book_from b bytes t =
    let n = count_in b in
    let r = passes-Laid b (parts_start n) 0 (parts_start n) n bytes (omega arith) t.room t.pairs in
    let whole : b ≡ word n ++ (pairs (parts_start n) (parts b) ++ flat_map (λ p. p) (parts b)) =
    word_front b 0 4 bytes refl t.counted ∙ ap (λ (l : List ℕ). word n ++ l) (r.laid.heads ∙ rw r.laid.bodies refl) in
    is_book-IsBook b (record {
      is = whole ∙ rw (length-parts b) (sym (append_assoc (word n) _ _));
      short = t.short;
      all_parts = r.all;
    })

-- how long a book is; its first part says nothing, and shows where this tells something
pub book_room : (b : List ℕ) → is_book b ≡ true → (is_book b ≡ true) × (parts_start (count_in b) ≤ length b) × (length b ≤ book_max)
book_room b h = (h, (laid_out_in b h).room, (laid_out_in b h).short)

-- where the pairs have room, they decide
pub laid_test : (b : List ℕ) → AreBytes b → 4 ≤ length b → length b ≤ book_max → parts_start (count_in b) ≤ length b
    → is_book b ≡ laid_out b 0 (parts_start (count_in b)) (count_in b)
laid_test b bytes counted short room =
    same_from_decides {P = is_book b ≡ true} _ _ (λ h. h, λ h. h)
    (λ h. book_from b bytes (record { counted = counted; short = short; room = room; pairs = h }), λ h. (laid_out_in b h).pairs)

-- ---- each part of a book lies within it
pub record Within (b : List ℕ) (i : ℕ) : Type 0 where
  pub ends : word_at b (4 + 8 * i) + word_at b (8 + 8 * i) ≤ length b
  pub part : is_part (part_at b i) ≡ true

passes_within : (b : List ℕ) (i at n j k : ℕ) → laid_out b i at n ≡ true → j < n → i + j ≡ k
    → (word_at b (4 + 8 * k) + word_at b (8 + 8 * k) ≤ length b) × (is_part (part_at b k) ≡ true)
passes_within b i at zero j k h l e = absurd (omega arith)
passes_within b i at (suc n) zero k h l e =
    let t = passed b i at n h in
    let same : k ≡ i = omega arith in
    rw same (omega (arith, t.offset, t.ends), t.part)
passes_within b i at (suc n) (suc j) k h l e = passes_within b (suc i) _ n j k (passed b i at n h).next (omega arith) (omega arith)

pub part_within : (b : List ℕ) (i : ℕ) → is_book b ≡ true → i < count_in b → Within b i
part_within b i h l =
    let t = laid_out_in b h in
    let at = passes_within b 0 _ (count_in b) i i t.pairs l (omega arith) in
    record { ends = at.0; part = at.1 }

-- ---- a turn of the loop: the pair at i of n decides, and then those behind it
pub next_pair : (b : List ℕ) (i at n : ℕ) → i < n
    → laid_out b i at (n - i) ≡ (word_at b (4 + 8 * i) == at && leb (at + word_at b (8 + 8 * i)) (length b)
    && is_part (take (at + word_at b (8 + 8 * i) - at) (drop at b)) && laid_out b (i + 1) (at + word_at b (8 + 8 * i)) (n - (i + 1)))
unfolding laid_out
next_pair b i at n l =
    let more : n - i ≡ suc (n - (i + 1)) = omega arith in
    rw (more, add-sub_cancel_left at (word_at b (8 + 8 * i)), add-one) refl

pub last_pair : (b : List ℕ) (i at n : ℕ) → n ≤ i → laid_out b i at (n - i) ≡ (at == length b)
unfolding laid_out
last_pair b i at n l =
    let none : n - i ≡ 0 = omega arith in
    rw none refl
