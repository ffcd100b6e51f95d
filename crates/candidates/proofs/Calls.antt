-- What the stages of a call give is what its definition says, as laws of plain values: what is put in or taken out of every column at one place is put in or taken out of the list,
-- and memory then holds the list that the call leaves (`arrives`, `departs`); a refused one leaves all as it was (`refuses`, `departs_not`).
use Rattle.std.proofs.Common.{ℕ, suc, ◌+◌, ◌-◌, ◌≤◌, ◌<◌, min, ◌≡◌, refl, sym, ap, ◌∙◌, Bool, true, false, cond, not, nat_lt, ltb→lt, ltb-false, List, [], ◌∷◌, map, length, take, take_all, length-take, inl, inr, Some, None, Option, unwrap_or, arith, one-add}
use lib.Ieee.{Float}
use Rattle.std.specs.List as Std
use Rattle.std.specs.List.{position, position_or_len, take-map}
use Rattle.std.proofs.lemmas.List.Edits.{length-insert, length-remove}
use Rattle.std.proofs.lemmas.List.Sums.{prefix_len-le-length}
use Rattle.floats.proofs.Rounding.{below_or_from}
use Rattle.numbers.specs.Refusal.{accepted, rejected, unless_refused}
use Rattle.numbers.specs.Written.{over}
use Rattle.candidates.specs.Candidate.{Candidate, goes_before, is_id, has_id}
use Rattle.candidates.specs.Memory.{Memory, memory, rows, Sized, listed, listed_ids, column_over, holding, Call, arrival, departure, check, insert, remove, changed, answer, left}
use Rattle.candidates.proofs.Lists.{map-insert, map-remove, first_map}
use Rattle.candidates.proofs.Ids.{among_found, among_missed}
use Rattle.candidates.proofs.Passed.{passed}
use Rattle.candidates.proofs.Rows.{ids_of-rows, densities_of-rows, length-rows, take-rows}

-- ---- the definitions by places
insert_is : (c : Candidate) (cs : List Candidate) → insert c cs ≡ Std.insert cs (position_or_len (goes_before c) cs) c
unfolding insert
insert_is c [] = refl
insert_is c (d ∷ cs) = go (goes_before c d) (insert_is c cs)
  where
    go : (b : Bool) → insert c cs ≡ Std.insert cs (position_or_len (goes_before c) cs) c
        → cond b (c ∷ d ∷ cs) (d ∷ insert c cs) ≡ Std.insert (d ∷ cs) (cond (not b) (1 + position_or_len (goes_before c) cs) 0) c
    go true e = refl
    go false e = rw one-add (ap (λ (l : List Candidate). d ∷ l) e)

remove_is : (id : ℕ) (cs : List Candidate) → remove id cs ≡ Std.remove cs (position_or_len (has_id id) cs)
unfolding remove
remove_is id [] = refl
remove_is id (d ∷ cs) = go (has_id id d) (remove_is id cs)
  where
    go : (b : Bool) → remove id cs ≡ Std.remove cs (position_or_len (has_id id) cs)
        → cond b cs (d ∷ remove id cs) ≡ Std.remove (d ∷ cs) (cond (not b) (1 + position_or_len (has_id id) cs) 0)
    go true e = refl
    go false e = rw one-add (ap (λ (l : List Candidate). d ∷ l) e)

-- a search for an id goes through the ids
by_id : (id : ℕ) (cs : List Candidate) → position_or_len (is_id id) (map (λ c. c.id) cs) ≡ position_or_len (has_id id) cs
by_id id cs = first_map (is_id id) (λ c. c.id) cs

-- ---- the columns
module _ (ids : List ℕ) (ds : List Float) (n : ℕ) (as_long : length ids ≡ length ds) where
  abbrev first : List Candidate
  first = take n (rows ids ds)

  ids_of : map (λ c. c.id) first ≡ take n ids
  ids_of = sym (take-map (λ c. c.id) n (rows ids ds)) ∙ ap (take n) (ids_of-rows ids ds as_long)

  densities_of : map (λ c. c.density) first ≡ take n ds
  densities_of = sym (take-map (λ c. c.density) n (rows ids ds)) ∙ ap (take n) (densities_of-rows ids ds as_long)

  inserted-ids : (c : Candidate) (at : ℕ) → column_over (λ d. d.id) (Std.insert first at c) ids ≡ over (Std.insert (take n ids) at c.id) ids
  inserted-ids c at = rw (map-insert (λ d. d.id) first at c, ids_of)

  inserted-densities : (c : Candidate) (at : ℕ) → column_over (λ d. d.density) (Std.insert first at c) ds ≡ over (Std.insert (take n ds) at c.density) ds
  inserted-densities c at = rw (map-insert (λ d. d.density) first at c, densities_of)

  removed-ids : (at : ℕ) → column_over (λ d. d.id) (Std.remove first at) ids ≡ over (Std.remove (take n ids) at) ids
  removed-ids at = rw (map-remove (λ d. d.id) first at, ids_of)

  removed-densities : (at : ℕ) → column_over (λ d. d.density) (Std.remove first at) ds ≡ over (Std.remove (take n ds) at) ds
  removed-densities at = rw (map-remove (λ d. d.density) first at, densities_of)

-- ---- a search that found a place, and one that didn't
module _ {A : Type 0} (p : A → Bool) (xs : List A) where
  pub found_at : (i : ℕ) → position p xs ≡ Some i → (i ≡ position_or_len p xs) × (i < length xs)
  found_at i e = go (nat_lt (position_or_len p xs) (length xs)) refl e
    where
      go : (b : Bool) → nat_lt (position_or_len p xs) (length xs) ≡ b → cond b (Some (position_or_len p xs)) None ≡ Some i
          → (i ≡ position_or_len p xs) × (i < length xs)
      go true t e = let f : position_or_len p xs ≡ i = cc in (sym f, rw (← f) (ltb→lt _ _ (rw t tt)))
      go false t e = absurd cc

  pub found_none : position p xs ≡ None → length xs ≤ position_or_len p xs
  found_none e = go (nat_lt (position_or_len p xs) (length xs)) refl e
    where
      go : (b : Bool) → nat_lt (position_or_len p xs) (length xs) ≡ b → cond b (Some (position_or_len p xs)) None ≡ None
          → length xs ≤ position_or_len p xs
      go true t e = absurd cc
      go false t e = ltb-false _ _ t

  pub or_all : unwrap_or (position p xs) (length xs) ≡ position_or_len p xs
  or_all = go (nat_lt (position_or_len p xs) (length xs)) refl
    where
      go : (b : Bool) → nat_lt (position_or_len p xs) (length xs) ≡ b → unwrap_or (cond b (Some (position_or_len p xs)) None) (length xs) ≡ position_or_len p xs
      go true t = refl
      go false t =
          let h = prefix_len-le-length (λ x. not (p x)) xs in
          let k : length xs ≤ position_or_len p xs = ltb-false _ _ t in
          omega arith

-- ---- a search through rows is one through the two columns side by side
module _ (c : Candidate) where
  abbrev before_pair : ℕ × Float → Bool
  before_pair p = goes_before c (record { id = p.0; density = p.1 })

  by_pairs : (ids : List ℕ) (ds : List Float) → position_or_len before_pair (Std.zip ids ds) ≡ position_or_len (goes_before c) (rows ids ds)
  unfolding rows
  by_pairs [] ds = refl
  by_pairs (id ∷ ids) [] = refl
  by_pairs (id ∷ ids) (d ∷ ds) = ap (λ (n : ℕ). cond (not (before_pair (id, d))) (1 + n) 0) (by_pairs ids ds)

  length-pairs : (ids : List ℕ) (ds : List Float) → length ids ≡ length ds → length (Std.zip ids ds) ≡ length ids
  length-pairs [] ds e = refl
  length-pairs (id ∷ ids) [] e = absurd (omega arith)
  length-pairs (id ∷ ids) (d ∷ ds) e = ap suc (length-pairs ids ds (omega arith))

  pub by_columns : (ids : List ℕ) (ds : List Float) → length ids ≡ length ds → (r : Option ℕ) → r ≡ position before_pair (Std.zip ids ds)
      → unwrap_or r (length ids) ≡ position_or_len (goes_before c) (rows ids ds)
  by_columns ids ds e r f = rw (f, ← length-pairs ids ds e) (or_all before_pair (Std.zip ids ds) ∙ by_pairs ids ds)

-- ---- what a refusal leaves, and an accepted call
refused_leaves : (m : Memory) (call : Call) (k : ℕ) → rejected k ≡ answer m call → m ≡ left m call
unfolding left unless_refused
refused_leaves m call k e = rw (← e)

accepted_leaves : (m : Memory) (call : Call) → accepted ≡ answer m call → holding m (changed call (listed m)) ≡ left m call
unfolding left unless_refused
accepted_leaves m call e = rw (← e)

-- ---- a list in 64 places, of which the first n are looked at: a count above 64 counts as 64
looked_at : {A : Type 0} (n k : ℕ) (xs : List A) → n ≡ min k 64 → length xs ≡ 64 → take n xs ≡ take k xs
looked_at n k xs is e = elim (below_or_from k 64) [
  | inl h ↦ let f : n ≡ k = omega arith in rw f
  | inr h ↦
      let f : length xs ≤ n = omega arith in
      let g : length xs ≤ k = omega arith in
      take_all n xs f ∙ sym (take_all k xs g)
]

module _ (m : Memory) (s : Sized m) (n : ℕ) (is : n ≡ min m.count 64) where
  as_long : length m.ids ≡ length m.densities
  as_long = s.ids ∙ sym s.densities

  abbrev all : List Candidate
  all = rows m.ids m.densities

  listed-n : listed m ≡ take n all
  unfolding listed
  listed-n = sym (looked_at n m.count all is (length-rows m.ids m.densities as_long ∙ s.ids))

  length-n : length (take n all) ≡ n
  length-n = let a = length-take n all in let b = length-rows m.ids m.densities as_long in let c = s.ids in omega arith

  pub long : length (take n m.ids) ≡ n
  long = let a = length-take n m.ids in let b = s.ids in omega arith

  -- what is checked among the first n is checked among all
  answered : (call : Call) → check (take n m.ids) call ≡ answer m call
  unfolding answer listed_ids
  answered call = rw (looked_at n m.count m.ids is s.ids)

  pub refuses : (call : Call) (why : ℕ) → rejected why ≡ check (take n m.ids) call → (rejected why ≡ answer m call) × (m ≡ left m call)
  refuses call why e = let a = e ∙ answered call in (a, refused_leaves m call why a)

  -- ---- an arrival
  module _ (c : Candidate) (ok : accepted ≡ check (take n m.ids) (arrival c)) (at : ℕ) (e : at ≡ position_or_len (goes_before c) (rows (take n m.ids) (take n m.densities))) where
    place_is : at ≡ position_or_len (goes_before c) (take n all)
    place_is = rw take-rows e

    pub put_within : (at ≤ n) × (n < 64)
    put_within =
        let a = prefix_len-le-length (λ d. not (goes_before c d)) (take n all) in
        let b = place_is in
        let l = length-n in
        let k = long in
        let r = (passed (take n m.ids) c (sym ok)).room in
        (omega arith, omega arith)

    pub arrives : (accepted ≡ answer m (arrival c))
        × (memory (n + 1) (over (Std.insert (take n m.ids) at c.id) m.ids) (over (Std.insert (take n m.densities) at c.density) m.densities) ≡ left m (arrival c))
    unfolding holding changed
    arrives =
        let a = ok ∙ answered (arrival c) in
        let l = length-insert (take n all) at c (let w = put_within.0 in let k = length-n in omega arith) in
        let h : n + 1 ≡ length (Std.insert (take n all) at c) = let k = length-n in omega arith in
        let i : insert c (take n all) ≡ Std.insert (take n all) at c = insert_is c (take n all) ∙ ap (λ (j : ℕ). Std.insert (take n all) j c) (sym place_is) in
        (a, rw (← accepted_leaves m (arrival c) a, listed-n, i, ← h, inserted-ids m.ids m.densities n as_long c at, inserted-densities m.ids m.densities n as_long c at))

  -- ---- a departure
  module _ (id : ℕ) where
    among_none : position (is_id id) (take n m.ids) ≡ None → rejected 12 ≡ check (take n m.ids) (departure id)
    unfolding check
    among_none e = rw (among_missed id (take n m.ids) (found_none (is_id id) (take n m.ids) e))

    pub departs_not : position (is_id id) (take n m.ids) ≡ None → (rejected 12 ≡ answer m (departure id)) × (m ≡ left m (departure id))
    departs_not e = refuses (departure id) 12 (among_none e)

    module _ (at : ℕ) (e : position (is_id id) (take n m.ids) ≡ Some at) where
      pub taken_within : at < n
      taken_within = let f = (found_at (is_id id) (take n m.ids) at e).1 in let k = long in omega arith

      among : accepted ≡ check (take n m.ids) (departure id)
      unfolding check
      among = let f = found_at (is_id id) (take n m.ids) at e in rw (among_found id (take n m.ids) (rw (← f.0) f.1))

      pub departs : (accepted ≡ answer m (departure id))
          × (memory (n - 1) (over (Std.remove (take n m.ids) at) m.ids) (over (Std.remove (take n m.densities) at) m.densities) ≡ left m (departure id))
      unfolding holding changed
      departs =
          let a = among ∙ answered (departure id) in
          let f : at ≡ position_or_len (has_id id) (take n all) =
          (found_at (is_id id) (take n m.ids) at e).0
          ∙ ap (position_or_len (is_id id)) (sym (ids_of m.ids m.densities n as_long))
          ∙ by_id id (take n all) in
          let w = taken_within in
          let k = length-n in
          let l = length-remove (take n all) at (omega arith) in
          let h : n - 1 ≡ length (Std.remove (take n all) at) = omega arith in
          (a, rw (← accepted_leaves m (departure id) a, listed-n, remove_is id (take n all), ← f, ← h, removed-ids m.ids m.densities n as_long at, removed-densities m.ids m.densities n as_long at))
