-- Lists with no two equal members (`none_equal`), lists less their repetitions (`new_after`), and checks of each member
-- (`check_all`), for any equality and any check: no law of the equality is used. By induction on the list, with what stands before it.
use Rattle.std.proofs.Common.{◌≡◌, ℕ, Bool, true, false, T, not, ◌||◌, cond, List, [], ◌∷◌, ◌++◌, map, get_or, refl, sym, ap, ◌∙◌, inl, inr, append_assoc, arith}
use Rattle.std.specs.List.{list_any, All, AllPairs}
use Rattle.std.proofs.lemmas.Bool.{not-true, and_parts, and_from, or_parts, or_from, not_from_false, both_ways, cases_Bool}
use Rattle.std.proofs.lemmas.List.{map_push}
use Rattle.std.proofs.lemmas.List.Elements.{All-nil, All-cons, All-head, All-tail}
use Rattle.std.proofs.lemmas.List.Folds.{list_any-append, list_any_at}
use Rattle.std.proofs.lemmas.List.Kept.{AllPairs-cons}
use Rattle.numbers.specs.Refusal.{Verdict, accepted}
use Rattle.numbers.proofs.refusal.Checks.{first_passed, next_passed}
use Rattle.book.specs.Layout.{none_equal, new_after}
use Rattle.book.specs.Surfaces.{check_all, surface_in, equal_for_writing, equal_for_reading}

-- none of these passes: the first doesn't, nor any other
none_passes : {A : Type 0} (test : A → Bool) (x : A) (xs ys : List A) → list_any test (xs ++ x ∷ ys) ≡ false
    → (list_any test xs ≡ false) × (test x ≡ false)
none_passes test x xs ys h =
    let parts = or_parts (list_any test xs) (test x || list_any test ys) (sym (list_any-append test xs (x ∷ ys)) ∙ h) in
    (parts.0, (or_parts (test x) (list_any test ys) parts.1).0)

module _ {A : Type 0} (same : A → A → Bool) where
  -- ---- less its repetitions
  -- what is left is equal to none that came before
  new_differs : (b c : List A) (x : A) (xs : List A) → list_any (λ y. same y x) (new_after same (b ++ x ∷ c) xs) ≡ false
  unfolding new_after
  new_differs b c x [] = refl
  new_differs b c x (z ∷ xs) =
      let rest : list_any (λ y. same y x) (new_after same ((b ++ x ∷ c) ++ z ∷ []) xs) ≡ false =
      rw (append_assoc b (x ∷ c) (z ∷ [])) (new_differs b (c ++ z ∷ []) x xs) in
      elim (list_any (same z) (b ++ x ∷ c)) as (λ t. list_any (same z) (b ++ x ∷ c) ≡ t
      → list_any (λ y. same y x) (cond t (new_after same ((b ++ x ∷ c) ++ z ∷ []) xs) (z ∷ new_after same ((b ++ x ∷ c) ++ z ∷ []) xs)) ≡ false) [
        | true ↦ λ _. rest
        | false ↦ λ e. or_from (same z x) _ (none_passes (same z) x b c e).1 rest
      ] refl

  -- what is left has no two equal members
  new_none_equal : (b xs : List A) → none_equal same (new_after same b xs) ≡ true
  unfolding new_after none_equal
  new_none_equal b [] = refl
  new_none_equal b (x ∷ xs) =
      elim (list_any (same x) b) as (λ t. none_equal same (cond t (new_after same (b ++ x ∷ []) xs) (x ∷ new_after same (b ++ x ∷ []) xs)) ≡ true) [
        | true ↦ new_none_equal (b ++ x ∷ []) xs
        | false ↦ and_from _ _ (not_from_false _ (new_differs b [] x xs)) (new_none_equal (b ++ x ∷ []) xs)
      ]

  pub none_equal-new_after : (xs : List A) → none_equal same (new_after same [] xs) ≡ true
  none_equal-new_after xs = new_none_equal [] xs

  -- a member of such a list is equal to none that stands before it
  none_before : (b : List A) (x : A) (xs : List A) → none_equal same (b ++ x ∷ xs) ≡ true → list_any (same x) b ≡ false
  unfolding none_equal
  none_before [] x xs h = refl
  none_before (y ∷ b) x xs h =
      let parts = and_parts _ (none_equal same (b ++ x ∷ xs)) h in
      or_from (same x y) _ (none_passes (λ z. same z y) x b xs (not-true _ parts.0)).1 (none_before b x xs parts.1)

  new_stay : (b xs : List A) → none_equal same (b ++ xs) ≡ true → new_after same b xs ≡ xs
  unfolding new_after
  new_stay b [] h = refl
  new_stay b (x ∷ xs) h =
      rw (none_before b x xs h) (ap (λ (l : List A). x ∷ l) (new_stay (b ++ x ∷ []) xs (rw (append_assoc b (x ∷ []) xs) h)))

  -- such a list is left as it is
  pub new_after-none_equal : (xs : List A) → none_equal same xs ≡ true → new_after same [] xs ≡ xs
  new_after-none_equal xs h = new_stay [] xs h

  -- what holds of every member holds of those that are left
  pub All-new_after : (P : A → Type 0) (b xs : List A) → All P xs → All P (new_after same b xs)
  unfolding new_after
  All-new_after P b [] h = h
  All-new_after P b (x ∷ xs) h =
      let rest = All-new_after P (b ++ x ∷ []) xs (All-tail P x xs h) in
      elim (list_any (same x) b) as (λ t. All P (cond t (new_after same (b ++ x ∷ []) xs) (x ∷ new_after same (b ++ x ∷ []) xs))) [
        | true ↦ rest
        | false ↦ All-cons P x (new_after same (b ++ x ∷ []) xs) (All-head P x xs h) rest
      ]

  -- ---- no two equal members, as pairs
  not_equal : (x : A) (xs : List A) → list_any (λ y. same y x) xs ≡ false → All (λ y. T (not (same y x))) xs
  not_equal x xs h k d l =
      elim (cases_Bool (same (get_or xs k d) x)) [
        | inl e ↦ absurd (both_ways (list_any (λ y. same y x) xs) h (list_any_at (λ y. same y x) xs k d l e))
        | inr e ↦ rw e tt
      ]

  pub AllPairs-none_equal : (xs : List A) → none_equal same xs ≡ true → AllPairs (λ x y. T (not (same y x))) xs
  unfolding none_equal
  AllPairs-none_equal [] h = λ i j d _ l. absurd (omega arith)
  AllPairs-none_equal (x ∷ xs) h =
      let parts = and_parts _ (none_equal same xs) h in
      AllPairs-cons (λ x y. T (not (same y x))) x xs (not_equal x xs (not-true _ parts.0)) (AllPairs-none_equal xs parts.1)

-- ---- images
pub list_any-map : {A B : Type 0} (test : B → Bool) (f : A → B) (xs : List A) → list_any test (map f xs) ≡ list_any (λ x. test (f x)) xs
list_any-map test f [] = refl
list_any-map test f (x ∷ xs) = ap (λ (t : Bool). test (f x) || t) (list_any-map test f xs)

module _ {A B : Type 0} (same : B → B → Bool) (f : A → B) where
  pub none_equal-map : (xs : List A) → none_equal same (map f xs) ≡ none_equal (λ x y. same (f x) (f y)) xs
  unfolding none_equal
  none_equal-map [] = refl
  none_equal-map (x ∷ xs) = rw (list_any-map (λ y. same y (f x)) f xs, none_equal-map xs)

  pub new_after-map : (b xs : List A) → new_after same (map f b) (map f xs) ≡ map f (new_after (λ x y. same (f x) (f y)) b xs)
  unfolding new_after
  new_after-map b [] = refl
  new_after-map b (x ∷ xs) =
      let rest : new_after same (map f b ++ f x ∷ []) (map f xs) ≡ map f (new_after (λ x y. same (f x) (f y)) (b ++ x ∷ []) xs) =
      rw (← map_push f b x) (new_after-map (b ++ x ∷ []) xs) in
      rw (list_any-map (same (f x)) f b, rest) (kept (list_any (λ y. same (f x) (f y)) b) x (new_after (λ x y. same (f x) (f y)) (b ++ x ∷ []) xs))
    where
      kept : (t : Bool) (x : A) (ys : List A) → cond t (map f ys) (f x ∷ map f ys) ≡ map f (cond t ys (x ∷ ys))
      kept true x ys = refl
      kept false x ys = refl

-- parts are equal as their surfaces are
pub none_equal-parts : (ps : List (List ℕ)) → none_equal equal_for_reading ps ≡ none_equal equal_for_writing (map surface_in ps)
unfolding equal_for_reading equal_for_writing
none_equal-parts ps = sym (none_equal-map equal_for_writing surface_in ps)

-- ---- checks of each member
module _ {A : Type 0} (check : A → Verdict) where
  abbrev Passes : A → Type 0
  Passes x = check x ≡ accepted

  pub All-check_all : (xs : List A) → check_all check xs ≡ accepted → All (λ x. check x ≡ accepted) xs
  unfolding check_all
  All-check_all [] h = All-nil Passes
  All-check_all (x ∷ xs) h =
      All-cons Passes x xs (first_passed (check x) (check_all check xs) h) (All-check_all xs (next_passed (check x) (check_all check xs) h))

  pub check_all-All : (xs : List A) → All (λ x. check x ≡ accepted) xs → check_all check xs ≡ accepted
  unfolding check_all
  check_all-All [] h = refl
  check_all-All (x ∷ xs) h = rw (All-head Passes x xs h) (check_all-All xs (All-tail Passes x xs h))
