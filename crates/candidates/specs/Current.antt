-- The brightest directions, kept current (document 02, ii), as one statement over every list of calls from an empty list. Definitions only; it is proved in proofs/Current.antt.
-- It says what the list is by who is present and what stands before what, and nothing of how a candidate is put in.
use Rattle.std.specs.Prelude.{ℕ, suc, ◌≤◌, T, ltb, length}
use mathlib.Core.{Path.◌≡◌, Bool.Bool, Bool.not, Bool.◌&&◌, Bool.◌||◌, Bool.cond, List.List, List.[], List.◌∷◌, List.map, List.Permᴰ}
use Rattle.numbers.specs.Refusal.{Verdict, unless_refused}
use Rattle.candidates.specs.Candidate.{Candidate, goes_before, has_id, CandidateF64}
use Rattle.candidates.specs.Memory.{places, Memory, Sized, Laid, Call, arrival, departure, check, Called}

-- ---- who is present
-- a present candidate, with the number of the call that it arrived by
pub record Present : Type 0 where
  pub call : ℕ
  pub candidate : Candidate

-- 02's number for a call, by who is present
unfoldable pub settle : List Present → Call → Verdict
settle ps call = check (map (λ p. p.candidate.id) ps) call

-- all but those that have the id
unfoldable pub others : ℕ → List Present → List Present
others id [] = []
others id (p ∷ ps) = cond (has_id id p.candidate) (others id ps) (p ∷ others id ps)

-- who is present after a call that is accepted, n being its number
unfoldable pub accept : ℕ → Call → List Present → List Present
accept n (arrival c) ps = record { call = n; candidate = c } ∷ ps
accept n (departure id) ps = others id ps

unfoldable pub after : ℕ → List Present → Call → List Present
after n ps call = unless_refused (settle ps call) ps (accept n call ps)

-- ---- the order: what goes before another stands before it, and where neither does, what arrived first
unfoldable pub before : Present → Present → Bool
before a b =
    goes_before a.candidate b.candidate
    || (not (goes_before b.candidate a.candidate) && ltb a.call b.call)

unfoldable pub Every : {A : Type 0} → (A → Type 0) → List A → Type 0
Every P [] = Unit
Every P (x ∷ xs) = P x × Every P xs

-- it holds of each and all that follow it
unfoldable pub Pairwise : {A : Type 0} → (A → A → Type 0) → List A → Type 0
Pairwise R [] = Unit
Pairwise R (x ∷ xs) = Every (R x) xs × Pairwise R xs

-- memory has exactly the present candidates, each a single time, in the order
pub record Current (m : Memory) (ps : List Present) : Type 0 where
  pub order : List Present
  pub present : Permᴰ order ps
  pub sorted : Pairwise (λ a b. T (before a b)) order
  pub laid : Laid (map (λ p. p.candidate) order) m
  -- and so no id stands twice, and they have room
  pub once : Pairwise (λ a b. a.candidate.id ≡ b.candidate.id → ⊥) order
  pub room : length order ≤ places

-- ---- a list of calls
unfoldable pub CallF64 : Call → Type 0
CallF64 (arrival c) = CandidateF64 c
CallF64 (departure id) = Unit

-- after every call of it, where n calls were made before, ps is who was present then and m what memory held: v is what the call answers and m' what it leaves, by its contract
unfoldable pub Throughout : ℕ → List Present → Memory → List Call → Type 0
Throughout n ps m [] = Unit
Throughout n ps m (call ∷ calls) =
    (v : Verdict) (m' : Memory) → Called m call v m'
    → (v ≡ settle ps call) × Current m' (after n ps call) × Throughout (suc n) (after n ps call) m' calls

-- memory with all its places and a count of 0, whatever the places hold
pub record Empty (m : Memory) : Type 0 where
  pub sized : Sized m
  pub count : m.count ≡ 0

unfoldable pub KeptCurrent : Type 0
KeptCurrent = (m : Memory) → Empty m → (calls : List Call) → Every CallF64 calls → Throughout 0 [] m calls
