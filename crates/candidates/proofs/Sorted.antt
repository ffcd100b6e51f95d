-- Laws of `Every` and `Pairwise`, of permutations and of parts of a list. By induction on the list, on the permutation or on the part.
use Prim.Native.Nat.{suc, ◌≤◌}
use native.Mathlib.Omega.{arith}
use mathlib.Core.Path.{◌≡◌, refl, ap, ◌∙◌, subst}
use mathlib.Core.List.{List, [], ◌∷◌}
use mathlib.Core.List.{Permᴰ}
use mathlib.Core.List.{Sublistᴰ}
use lib.ListN.{length}
use Rattle.candidates.specs.Current.{Every, Pairwise}

module _ {A : Type 0} where
  pub every_both : (P Q R : A → Type 0) → ((x : A) → P x → Q x → R x) → (xs : List A) → Every P xs → Every Q xs → Every R xs
  unfolding Every
  every_both P Q R f [] a b = tt
  every_both P Q R f (x ∷ xs) a b = (f x a.0 b.0, every_both P Q R f xs a.1 b.1)

  -- ---- a permutation of the list
  pub length-perm : {xs ys : List A} → Permᴰ xs ys → length xs ≡ length ys
  length-perm Permᴰ.nil = refl
  length-perm (Permᴰ.cons e d) = ap suc (length-perm d)
  length-perm (Permᴰ.swap e f) = refl
  length-perm (Permᴰ.trans d e) = length-perm d ∙ length-perm e

  pub every-perm : (P : A → Type 0) {xs ys : List A} → Permᴰ xs ys → Every P xs → Every P ys
  unfolding Every
  every-perm P Permᴰ.nil a = tt
  every-perm P (Permᴰ.cons e d) a = (subst P e a.0, every-perm P d a.1)
  every-perm P (Permᴰ.swap e f) a = (subst P f a.1.0, (subst P e a.0, a.1.1))
  every-perm P (Permᴰ.trans d e) a = every-perm P e (every-perm P d a)

  pub pairwise-perm : (R : A → A → Type 0) → ((x y : A) → R x y → R y x)
      → {xs ys : List A} → Permᴰ xs ys → Pairwise R xs → Pairwise R ys
  unfolding Every Pairwise
  pairwise-perm R s Permᴰ.nil a = tt
  pairwise-perm R s (Permᴰ.cons {a = x} e d) a = rw (← e) (every-perm (R x) d a.0, pairwise-perm R s d a.1)
  pairwise-perm R s (Permᴰ.swap {a = x} {b = y} {b' = v} {l = l} e f) a =
      subst (λ (u : A). Pairwise R (u ∷ v ∷ l)) f
      (subst (λ (u : A). Pairwise R (y ∷ u ∷ l)) e ((s x y a.0.0, a.1.0), (a.0.1, a.1.1)))
  pairwise-perm R s (Permᴰ.trans d e) a = pairwise-perm R s e (pairwise-perm R s d a)

  -- ---- a part of the list
  pub length_part : {xs ys : List A} → Sublistᴰ xs ys → length xs ≤ length ys
  length_part Sublistᴰ.slnil = omega arith
  length_part (Sublistᴰ.cons d) = let h = length_part d in omega arith
  length_part (Sublistᴰ.cons-cons e d) = let h = length_part d in omega arith

  pub every-part : (P : A → Type 0) {xs ys : List A} → Sublistᴰ xs ys → Every P ys → Every P xs
  unfolding Every
  every-part P Sublistᴰ.slnil a = tt
  every-part P (Sublistᴰ.cons d) a = every-part P d a.1
  every-part P (Sublistᴰ.cons-cons e d) a = rw e (a.0, every-part P d a.1)

  pub pairwise-part : (R : A → A → Type 0) {xs ys : List A} → Sublistᴰ xs ys → Pairwise R ys → Pairwise R xs
  unfolding Pairwise
  pairwise-part R Sublistᴰ.slnil a = tt
  pairwise-part R (Sublistᴰ.cons d) a = pairwise-part R d a.1
  pairwise-part R (Sublistᴰ.cons-cons {b} e d) a = rw e (every-part (R b) d a.0, pairwise-part R d a.1)
