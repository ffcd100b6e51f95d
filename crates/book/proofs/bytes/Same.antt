-- Doubles of two byte strings that are equal by value: in two parts (`same_doubles-add`), with one more (`same_more`), and where one differs
-- (`differs`). By the law of lists that are compared pair by pair (`same_values-append`).
use Rattle.std.proofs.Common.{◌≡◌, ℕ, ◌+◌, ◌-◌, ◌*◌, ◌<◌, Bool, true, false, ◌&&◌, List, [], ◌∷◌, ◌++◌, take, drop, length, arith, sym, ◌∙◌, refl, Float}
use Rattle.std.proofs.lemmas.Bool.{not-true, not-false}
use Rattle.std.proofs.Math.Bool.{and_assoc, and-false}
use lib.Ieee.{eq, ne}
use Rattle.book.specs.Bytes.{double_in, doubles_in}
use Rattle.book.specs.Surfaces.{same_values}
use Rattle.book.proofs.Doubles.{length-doubles_in}
use Rattle.book.proofs.bytes.Laid.{doubles_in-add}

same_values-append : (xs ys us vs : List Float) → length xs ≡ length us
    → same_values (xs ++ ys) (us ++ vs) ≡ (same_values xs us && same_values ys vs)
unfolding same_values
same_values-append [] ys [] vs long = refl
same_values-append [] ys (u ∷ us) vs long = absurd (omega arith)
same_values-append (x ∷ xs) ys [] vs long = absurd (omega arith)
same_values-append (x ∷ xs) ys (u ∷ us) vs long = rw (same_values-append xs ys us vs (omega arith), and_assoc)

-- whether the first n doubles are equal
abbrev pub same : ℕ → List ℕ → List ℕ → Bool
same n a b = same_values (doubles_in n a) (doubles_in n b)

-- those and the ones behind them
pub same_doubles-add : (m n : ℕ) (a b : List ℕ) → same (m + n) a b ≡ (same m a b && same n (drop (8 * m) a) (drop (8 * m) b))
same_doubles-add m n a b =
    rw (doubles_in-add m n a, doubles_in-add m n b)
    (same_values-append (doubles_in m a) _ (doubles_in m b) _ (length-doubles_in m a ∙ sym (length-doubles_in m b)))

-- the double at i
abbrev at : ℕ → List ℕ → Float
at i b = double_in (take 8 (drop (8 * i) b))

one_more : (i : ℕ) (a b : List ℕ) → same (i + 1) a b ≡ (same i a b && (eq (at i a) (at i b) && true))
unfolding same_values doubles_in
one_more i a b = same_doubles-add i 1 a b

pub same_more : (i : ℕ) (a b : List ℕ) → same i a b ≡ true → ne (at i a) (at i b) ≡ false → same (i + 1) a b ≡ true
unfolding ne
same_more i a b so_far equal = rw (one_more i a b, so_far, not-false (eq (at i a) (at i b)) equal)

pub differs : (i n : ℕ) (a b : List ℕ) → i < n → ne (at i a) (at i b) ≡ true → false ≡ same n a b
unfolding ne
differs i n a b within unequal =
    let count : n ≡ i + 1 + (n - (i + 1)) = omega arith in
    rw (count, same_doubles-add (i + 1) (n - (i + 1)) a b, one_more i a b, not-true (eq (at i a) (at i b)) unequal, and-false)
