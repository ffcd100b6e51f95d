-- What a call answers and what it leaves in memory, for any memory that it finds (document 02, ii). Definitions only.
-- What a list holds after calls that began with an empty one is said in Current.antt.
use Rattle.std.specs.Prelude.{ℕ, ltb, length, take, Float}
use mathlib.Core.{Path.◌≡◌, Bool.Bool, Bool.not, Bool.cond, List.List, List.[], List.◌∷◌, List.map}
use Rattle.std.specs.List.{list_any}
use Rattle.numbers.specs.Refusal.{Verdict, refuse, ◌then◌, unless_refused}
use Rattle.numbers.specs.Written.{over}
use Rattle.candidates.specs.Candidate.{Candidate, check_candidate, goes_before, is_id, has_id}

-- ---- a list in memory: how many candidates it has, and places for their ids and their densities
abbrev pub places : ℕ
places = 64

pub record Memory : Type 0 where
  pub count : ℕ
  pub ids : List ℕ
  pub densities : List Float

abbrev pub memory : ℕ → List ℕ → List Float → Memory
memory count ids densities = record { count = count; ids = ids; densities = densities }

-- it has all its places
pub record Sized (m : Memory) : Type 0 where
  pub ids : length m.ids ≡ places
  pub densities : length m.densities ≡ places

-- it has exactly these candidates, each in its place
pub record Laid (cs : List Candidate) (m : Memory) : Type 0 where
  pub count : m.count ≡ length cs
  pub ids : take m.count m.ids ≡ map (λ c. c.id) cs
  pub densities : take m.count m.densities ≡ map (λ c. c.density) cs

-- ---- what a call finds there, which may be anything
-- the candidate at each place
unfoldable pub rows : List ℕ → List Float → List Candidate
rows [] densities = []
rows (id ∷ ids) [] = []
rows (id ∷ ids) (d ∷ densities) = record { id = id; density = d } ∷ rows ids densities

-- the list; a count above the number of places counts as that number
unfoldable pub listed : Memory → List Candidate
listed m = take m.count (rows m.ids m.densities)

unfoldable pub listed_ids : Memory → List ℕ
listed_ids m = take m.count m.ids

-- ---- what a call leaves there
-- a column of a list written over the column of before: places past the list are as they were
abbrev pub column_over : {A : Type 0} → (Candidate → A) → List Candidate → List A → List A
column_over field cs before = over (map field cs) before

unfoldable pub holding : Memory → List Candidate → Memory
holding m cs = memory (length cs) (column_over (λ c. c.id) cs m.ids) (column_over (λ c. c.density) cs m.densities)

-- ---- the two calls
pub data Call : Type 0 where
  arrival : Candidate → Call
  departure : ℕ → Call

abbrev pub is_among : ℕ → List ℕ → Bool
is_among id ids = list_any (is_id id) ids

-- what a call is refused for, in 02's order, by the ids of those that are present
unfoldable pub check : List ℕ → Call → Verdict
check ids (arrival c) =
    check_candidate c
    then refuse 11 (ltb (length ids) places)
    then refuse 12 (not (is_among c.id ids))
check ids (departure id) = refuse 12 (is_among id ids)

-- c before the first that it goes before
unfoldable pub insert : Candidate → List Candidate → List Candidate
insert c [] = c ∷ []
insert c (d ∷ ds) = cond (goes_before c d) (c ∷ d ∷ ds) (d ∷ insert c ds)

-- all but the first that has the id
unfoldable pub remove : ℕ → List Candidate → List Candidate
remove id [] = []
remove id (d ∷ ds) = cond (has_id id d) ds (d ∷ remove id ds)

unfoldable pub changed : Call → List Candidate → List Candidate
changed (arrival c) = insert c
changed (departure id) = remove id

-- ---- what a call answers, and what memory holds then: a refusal changes nothing
unfoldable pub answer : Memory → Call → Verdict
answer m call = check (listed_ids m) call

unfoldable pub left : Memory → Call → Memory
left m call = unless_refused (answer m call) m (holding m (changed call (listed m)))

-- ---- contracts
-- the contract of a call that finds m in memory, answers v and leaves m'
abbrev pub Called : Memory → Call → Verdict → Memory → Type 0
Called m call v m' = (v ≡ answer m call) × (m' ≡ left m call)
