-- What holds of every entry of a list, entry by entry: the steps of a loop that tests them all, for any test.
-- What a loop has found of the entries before i decides together with the rest (`Rest`): it does at first (`rest-start`), with each entry more
-- (`rest-next`), and at the end alone (`rest_ends`).
use Rattle.std.proofs.Common.{◌≡◌, ℕ, zero, suc, ◌+◌, ◌<◌, ◌≤◌, Bool, true, false, ◌&&◌, T, List, [], ◌∷◌, length, get_or, drop, sym, refl, ap, ◌∙◌, zero-le, not-le_of_lt, add-one, arith, drop-cons, Float}
use mathlib.Core.Bool.{and-true, and-false, and_assoc}
use lib.Seq.{drop-length}
use lib.Ieee.Fits.{and_l, and_r}
use Rattle.numbers.specs.DenseSpectrum.{every, entry}

abbrev pub Rest : (Float → Bool) → List Float → ℕ → Bool → Type 0
Rest p s i ok = (i ≤ length s) × ((ok && every p (drop i s)) ≡ every p s)

module _ (p : Float → Bool) (s : List Float) where
  pub rest-start : Rest p s 0 true
  rest-start = (omega arith, refl)

  -- the rest from i on is the entry at i and the rest from i + 1 on
  unroll : (i : ℕ) (d : Float) → i < length s → every p (drop i s) ≡ p (get_or s i d) && every p (drop (i + 1) s)
  unfolding every
  unroll i d l = rw (add-one i, drop-cons s i d l)

  pub rest-next : (i : ℕ) (ok : Bool) (d : Float) → Rest p s i ok → i < length s → Rest p s (i + 1) (ok && p (get_or s i d))
  rest-next i ok d r l =
      let rest = every p (drop (i + 1) s) in
      (omega arith, and_assoc ok (p (get_or s i d)) rest ∙ sym (ap (λ (b : Bool). ok && b) (unroll i d l)) ∙ r.1)

  pub rest_ends : (i : ℕ) (ok : Bool) → Rest p s i ok → length s ≤ i → every p s ≡ ok
  unfolding every
  rest_ends i ok r l =
      let e : i ≡ length s = omega arith in
      sym r.1 ∙ ap (λ (j : ℕ). ok && every p (drop j s)) e ∙ ap (λ (b : List Float). ok && every p b) (drop-length s) ∙ and-true ok

-- an entry of a list whose every entry passes a test passes it
pub entry-every : (p : Float → Bool) (values : List Float) (i : ℕ) → T (every p values) → i < length values → T (p (entry values i))
unfolding every
entry-every p [] i h l = absurd (not-le_of_lt l zero-le)
entry-every p (v ∷ vs) zero h l = and_l (p v) (every p vs) h
entry-every p (v ∷ vs) (suc i) h l = entry-every p vs i (and_r (p v) (every p vs) h) (omega arith)

-- where one entry fails the test, not every entry passes it
pub every_fails : (p : Float → Bool) (values : List Float) (i : ℕ) → i < length values → p (entry values i) ≡ false → every p values ≡ false
unfolding every
every_fails p [] i l f = absurd (not-le_of_lt l zero-le)
every_fails p (v ∷ vs) zero l f = rw f
every_fails p (v ∷ vs) (suc i) l f = ap (λ (b : Bool). p v && b) (every_fails p vs i (omega arith) f) ∙ and-false (p v)
