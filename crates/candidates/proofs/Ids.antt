-- Whether an id is among others: what a loop found so far decides together with the rest (`Rest`); and by the place that a search for it gives: within them (`among_found`) or their number (`among_missed`). By induction on the ids.
use Prim.Native.Nat.{ℕ, ◌+◌, ◌≤◌, ◌<◌}
use native.Mathlib.Numerals.{add-one}
use native.Mathlib.Omega.{arith}
use mathlib.Core.Path.{◌≡◌, refl, sym, ap, ◌∙◌}
use mathlib.Core.Bool.{Bool, true, false, not, ◌||◌, cond, or_assoc, or-false}
use mathlib.Core.Logic.{◌⊎◌, inl, inr}
use mathlib.Core.List.{List, [], ◌∷◌}
use lib.ListN.{length, drop, get_or}
use lib.Seq.{drop-cons, drop-length}
use Rattle.std.specs.List.{position_or_len}
use Rattle.candidates.specs.Candidate.{is_id}
use Rattle.candidates.specs.Memory.{is_among}

module _ (id : ℕ) where
  abbrev pub Rest : List ℕ → ℕ → Bool → Type 0
  Rest ids i among = (i ≤ length ids) × ((among || is_among id (drop i ids)) ≡ is_among id ids)

  pub rest-start : (ids : List ℕ) → Rest ids 0 false
  rest-start ids = (omega arith, refl)

  -- the rest from i on is the id at i and the rest from i + 1 on
  unroll : (ids : List ℕ) (i d : ℕ) → i < length ids → is_among id (drop i ids) ≡ is_id id (get_or ids i d) || is_among id (drop (i + 1) ids)
  unroll ids i d l = rw (add-one i, drop-cons ids i d l)

  pub rest-next : (ids : List ℕ) (i : ℕ) (among : Bool) (d : ℕ) → Rest ids i among → i < length ids → Rest ids (i + 1) (among || is_id id (get_or ids i d))
  rest-next ids i among d r l =
      let rest = is_among id (drop (i + 1) ids) in
      (omega arith, or_assoc among (is_id id (get_or ids i d)) rest ∙ sym (ap (λ (b : Bool). among || b) (unroll ids i d l)) ∙ r.1)

  pub rest_ends : (ids : List ℕ) (i : ℕ) (among : Bool) → Rest ids i among → length ids ≤ i → is_among id ids ≡ among
  rest_ends ids i among r l =
      let e : i ≡ length ids = omega arith in
      sym r.1 ∙ ap (λ (j : ℕ). among || is_among id (drop j ids)) e ∙ ap (λ (s : List ℕ). among || is_among id s) (drop-length ids) ∙ or-false among

  -- what a search through the ids tells
  abbrev Found : List ℕ → ℕ → Bool → Type 0
  Found ids at among = ((at < length ids) × (among ≡ true)) ⊎ ((at ≡ length ids) × (among ≡ false))

  found : (ids : List ℕ) → Found ids (position_or_len (is_id id) ids) (is_among id ids)
  found [] = inr (refl, refl)
  found (x ∷ ids) = go (is_id id x) (found ids)
    where
      go : (b : Bool) → Found ids (position_or_len (is_id id) ids) (is_among id ids)
          → Found (x ∷ ids) (cond (not b) (1 + position_or_len (is_id id) ids) 0) (b || is_among id ids)
      go true f = inl (omega arith, refl)
      go false (inl f) = inl (let h = f.0 in omega arith, f.1)
      go false (inr f) = inr (let e = f.0 in omega arith, f.1)

  pub among_found : (ids : List ℕ) → position_or_len (is_id id) ids < length ids → is_among id ids ≡ true
  among_found ids h = elim (found ids) [ inl f ↦ f.1 | inr f ↦ absurd (let e = f.0 in omega arith) ]

  pub among_missed : (ids : List ℕ) → length ids ≤ position_or_len (is_id id) ids → is_among id ids ≡ false
  among_missed ids h = elim (found ids) [ inl f ↦ absurd (let e = f.0 in omega arith) | inr f ↦ f.1 ]
