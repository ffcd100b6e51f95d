-- Laws of a search (`position_or_len`), of one put in (`insert`) and one taken out (`remove`), and of the copies that compute them, over any type of entries. By induction on the list or the place.
use Prim.Native.Nat.{ℕ, zero, suc, ◌+◌, ◌-◌, ◌≤◌, ◌<◌}
use native.Mathlib.Nat.{zero-add, suc-add}
use native.Mathlib.Numerals.{add-one}
use native.Mathlib.Omega.{arith}
use mathlib.Core.Path.{◌≡◌, refl, ap}
use mathlib.Core.Bool.{Bool, not, cond}
use mathlib.Core.List.{List, [], ◌∷◌, ◌++◌, map, append_assoc}
use lib.ListN.{length, take, drop, set, length-take, length-drop}
use lib.Seq.{take-take}
use borrow.Rule.Slice.PartMut.{put_mid}
use Rattle.std.specs.List.{position_or_len, copy_within, insert, remove}
use Rattle.numbers.specs.Written.{over}

pub first_map : {A B : Type 0} (p : B → Bool) (f : A → B) (xs : List A) → position_or_len p (map f xs) ≡ position_or_len (λ x. p (f x)) xs
first_map p f [] = refl
first_map p f (x ∷ xs) = ap (λ (n : ℕ). cond (not (p (f x))) (1 + n) 0) (first_map p f xs)

pub map-insert : {A B : Type 0} (f : A → B) (xs : List A) (i : ℕ) (x : A) → map f (insert xs i x) ≡ insert (map f xs) i (f x)
map-insert f xs zero x = refl
map-insert f [] (suc i) x = refl
map-insert {B} f (y ∷ ys) (suc i) x = ap (λ (l : List B). f y ∷ l) (map-insert f ys i x)

pub map-remove : {A B : Type 0} (f : A → B) (xs : List A) (i : ℕ) → map f (remove xs i) ≡ remove (map f xs) i
map-remove f [] zero = refl
map-remove f (y ∷ ys) zero = refl
map-remove f [] (suc i) = refl
map-remove {B} f (y ∷ ys) (suc i) = ap (λ (l : List B). f y ∷ l) (map-remove f ys i)

-- ---- the first at + k of a column s
module _ {A : Type 0} where
  -- k entries copied a place on, and x in the place of the first
  put_near : (s : List A) (at k : ℕ) (x : A) → at + k < length s
      → set (take (suc at) s ++ take k (drop at s) ++ drop (suc (at + k)) s) at x ≡ over (insert (take (at + k) s) at x) s
  unfolding over
  put_near [] at k x l = absurd (omega arith)
  put_near (y ∷ s) zero k x l =
      let h = length-take k (y ∷ s) in
      let e : length (take k (y ∷ s)) ≡ k = omega arith in
      rw (zero-add, e)
  put_near (y ∷ s) (suc at) k x l = rw suc-add (ap (λ (l : List A). y ∷ l) (put_near s at k x (omega arith)))

  pub put_in : (s : List A) (n at : ℕ) (x : A) → at ≤ n → n < length s → set (copy_within s at n (at + 1)) at x ≡ over (insert (take n s) at x) s
  put_in s n at x h l =
      let k = n - at in
      let e : at + k ≡ n = omega arith in
      let g = put_near s at k x (omega arith) in
      rw (add-one, suc-add, e) (rw e at g)

  -- k entries copied a place back
  take_near : (s : List A) (at k : ℕ) → at + k < length s
      → (take at s ++ take k (drop (suc at) s) ++ drop (at + k) s) ≡ over (remove (take (suc (at + k)) s) at) s
  unfolding over
  take_near [] at k l = absurd (omega arith)
  take_near (y ∷ s) zero k l =
      let h = length-take k s in
      let e : length (take k s) ≡ k = omega arith in
      rw (zero-add, e)
  take_near (y ∷ s) (suc at) k l = rw suc-add (ap (λ (l : List A). y ∷ l) (take_near s at k (omega arith)))

  pub take_out : (s : List A) (n at : ℕ) → at < n → n ≤ length s → copy_within s (at + 1) n at ≡ over (remove (take n s) at) s
  take_out s n at h l =
      let k = n - (at + 1) in
      let e : suc (at + k) ≡ n = omega arith in
      let g = take_near s at k (omega arith) in
      rw add-one (rw (e, add-one) at g)
