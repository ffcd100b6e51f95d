-- Laws of a list in memory: the columns of `rows`, one row and the first rows of them, and that memory holds the list that `holding` puts there. By induction on the columns.
use Prim.Native.Nat.{ℕ, zero, suc, ◌≤◌}
use native.Mathlib.Omega.{arith}
use mathlib.Core.{Path.◌≡◌, Path.refl, Path.sym, Path.ap, Path.◌∙◌, List.List, List.[], List.◌∷◌, List.map}
use lib.ListN.{length, take, drop, length-append, length-map, length-drop}
use lib.Seq.{take-append_seam}
use lib.Ieee.{Float}
use Rattle.std.specs.List.{take-map}
use Rattle.numbers.specs.Written.{over}
use Rattle.candidates.specs.Candidate.{Candidate}
use Rattle.candidates.specs.Memory.{Memory, Sized, Laid, rows, listed, listed_ids, holding}

-- ---- the columns of the rows
pub ids_of-rows : (ids : List ℕ) (ds : List Float) → length ids ≡ length ds → map (λ c. c.id) (rows ids ds) ≡ ids
unfolding rows
ids_of-rows [] ds e = refl
ids_of-rows (id ∷ ids) [] e = absurd (omega arith)
ids_of-rows (id ∷ ids) (d ∷ ds) e = ap (λ (l : List ℕ). id ∷ l) (ids_of-rows ids ds (omega arith))

pub densities_of-rows : (ids : List ℕ) (ds : List Float) → length ids ≡ length ds → map (λ c. c.density) (rows ids ds) ≡ ds
unfolding rows
densities_of-rows [] [] e = refl
densities_of-rows [] (d ∷ ds) e = absurd (omega arith)
densities_of-rows (id ∷ ids) [] e = absurd (omega arith)
densities_of-rows (id ∷ ids) (d ∷ ds) e = ap (λ (l : List Float). d ∷ l) (densities_of-rows ids ds (omega arith))

pub length-rows : (ids : List ℕ) (ds : List Float) → length ids ≡ length ds → length (rows ids ds) ≡ length ids
length-rows ids ds e = sym (length-map (rows ids ds) (λ c. c.id)) ∙ ap length (ids_of-rows ids ds e)

pub take-rows : (k : ℕ) (ids : List ℕ) (ds : List Float) → take k (rows ids ds) ≡ rows (take k ids) (take k ds)
unfolding rows
take-rows zero ids ds = refl
take-rows (suc k) [] ds = refl
take-rows (suc k) (id ∷ ids) [] = refl
take-rows (suc k) (id ∷ ids) (d ∷ ds) = ap (λ (l : List Candidate). record { id = id; density = d } ∷ l) (take-rows k ids ds)

pub rows_of : (cs : List Candidate) → rows (map (λ c. c.id) cs) (map (λ c. c.density) cs) ≡ cs
unfolding rows
rows_of [] = refl
rows_of (c ∷ cs) = ap (λ (l : List Candidate). c ∷ l) (rows_of cs)

-- ---- the list in memory
module _ (m : Memory) (e : length m.ids ≡ length m.densities) where
  pub listed-ids : map (λ c. c.id) (listed m) ≡ listed_ids m
  unfolding listed listed_ids
  listed-ids =
      sym (take-map (λ c. c.id) m.count (rows m.ids m.densities)) ∙ ap (take m.count) (ids_of-rows m.ids m.densities e)

  -- a list as long as its count is laid out in its places
  pub listed-laid : m.count ≡ length (listed m) → Laid (listed m) m
  unfolding listed listed_ids
  listed-laid c =
      record {
        count = c;
        ids = sym listed-ids;
        densities =
            sym (sym (take-map (λ c. c.density) m.count (rows m.ids m.densities)) ∙ ap (take m.count) (densities_of-rows m.ids m.densities e));
      }

length_over : {A : Type 0} (xs before : List A) → length xs ≤ length before → length (over xs before) ≡ length before
unfolding over
length_over xs before h = simp (length-append, length-drop) (omega arith)

-- a column that a column of the list was written over begins with that column
front : {A : Type 0} (f : Candidate → A) (cs : List Candidate) (before : List A) → take (length cs) (over (map f cs) before) ≡ map f cs
unfolding over
front f cs before =
    ap (λ (k : ℕ). take k (over (map f cs) before)) (sym (length-map cs f))
    ∙ take-append_seam (map f cs) (drop (length (map f cs)) before)

module _ (m : Memory) (cs : List Candidate) where
  pub listed-holding : listed (holding m cs) ≡ cs
  unfolding listed holding
  listed-holding =
      take-rows (length cs) (over (map (λ c. c.id) cs) m.ids) (over (map (λ c. c.density) cs) m.densities)
      ∙ rw (front (λ c. c.id) cs m.ids, front (λ c. c.density) cs m.densities) (rows_of cs)

  pub count-holding : (holding m cs).count ≡ length (listed (holding m cs))
  unfolding holding
  count-holding = ap length (sym listed-holding)

  pub sized-holding : Sized m → length cs ≤ 64 → Sized (holding m cs)
  unfolding holding
  sized-holding s h =
      let a = length-map cs (λ c. c.id) in
      let b = length-map cs (λ c. c.density) in
      let i = s.ids in
      let d = s.densities in
      record {
        ids = length_over (map (λ c. c.id) cs) m.ids (omega arith) ∙ i;
        densities = length_over (map (λ c. c.density) cs) m.densities (omega arith) ∙ d;
      }
