-- The list is kept current (`KeptCurrent` of specs/Current.antt): after every call of every list of calls from an empty list it is exactly
-- the present candidates, each a single time, in the order, and the answer is the one that who is present gives. By induction on the list of calls.
use Prim.Native.Nat.{ℕ, suc, ◌≤◌}
use native.Mathlib.Omega.{arith}
use mathlib.Core.Path.{◌≡◌, refl, sym, ap, ◌∙◌}
use mathlib.Core.List.Permᴰ
use mathlib.Core.List.{List, [], ◌∷◌, map, map-map, Permᴰ}
use lib.ListN.{length, length-map}
use Rattle.numbers.specs.Refusal.{Verdict, accepted, rejected, unless_refused}
use Rattle.candidates.specs.Candidate.{Candidate, CandidateF64}
use Rattle.candidates.specs.Memory.{Memory, Sized, listed, holding, Call, arrival, departure, insert, remove, changed}
use Rattle.candidates.specs.Memory.{answer, left}
use Rattle.candidates.specs.Current.{Present, settle, others, accept, after, Every, Pairwise, Current, CallF64, Throughout, Empty, KeptCurrent}
use Rattle.candidates.proofs.Rows.{listed-ids, listed-laid, listed-holding, count-holding, sized-holding}
use Rattle.candidates.proofs.Passed.{passed}
use Rattle.candidates.proofs.Order.{ready}
use Rattle.candidates.proofs.Sorted.{every_both, length-perm, every-perm, pairwise-perm, length_part, every-part, pairwise-part}
use Rattle.candidates.proofs.Present.{candidates, ids, Before, Unlike, check_perm, none_among, Known, put_in, perm-others, part-others, taken_out}

-- ---- between calls: n were made, ps is who is present, cs the list
record Good (n : ℕ) (cs : List Candidate) (ps : List Present) : Type 0 where
  known : Every (Known n) ps
  unlike : Pairwise Unlike ps
  room : length (ids ps) ≤ 64
  order : List Present
  present : Permᴰ order ps
  sorted : Pairwise Before order
  listed : candidates order ≡ cs

module _ (n : ℕ) (cs : List Candidate) (ps : List Present) (g : Good n cs ps) where
  order-unlike : Pairwise Unlike g.order
  order-unlike = pairwise-perm Unlike (λ a b u e. u (sym e)) (Permᴰ.symm g.present) g.unlike

  same-ids : Permᴰ (map (λ c. c.id) cs) (ids ps)
  same-ids = rw (← g.listed, map-map) (Permᴰ.map (λ p. p.candidate.id) g.present)

  fits : length g.order ≤ 64
  fits = let l = length-perm g.present in let m = length-map ps (λ p. p.candidate.id) in let h = g.room in omega arith

  -- one call later
  known_on : Every (Known (suc n)) ps
  known_on =
      every_both (Known n) (Known n) (Known (suc n))
      (λ p k l. let h = k.early in record { ready = k.ready; early = omega arith }) ps g.known g.known

  -- a refused call
  kept : Good (suc n) cs ps
  kept =
      record {
        known = known_on;
        unlike = g.unlike;
        room = g.room;
        order = g.order;
        present = g.present;
        sorted = g.sorted;
        listed = g.listed;
      }

  -- an accepted arrival
  arrived : (c : Candidate) → CandidateF64 c → settle ps (arrival c) ≡ accepted
      → Good (suc n) (insert c cs) (record { call = n; candidate = c } ∷ ps)
  unfolding settle Every Pairwise
  arrived c f ok =
      let h = passed (ids ps) c ok in
      let r = ready c f h.alone in
      let p = put_in c n r g.order (every-perm (Known n) (Permᴰ.symm g.present) g.known) g.sorted in
      record {
        known = (record { ready = r; early = omega arith }, known_on);
        unlike = (none_among (record { call = n; candidate = c }) ps h.none, g.unlike);
        room = h.room;
        order = p.order;
        present = Permᴰ.trans p.present (Permᴰ.cons refl g.present);
        sorted = p.sorted;
        listed = p.listed ∙ ap (insert c) g.listed;
      }

  -- a departure; where nobody has the id it changes nothing
  departed : (id : ℕ) → Good (suc n) (remove id cs) (others id ps)
  departed id =
      record {
        known = every-part (Known (suc n)) (part-others id ps) known_on;
        unlike = pairwise-part Unlike (part-others id ps) g.unlike;
        room =
            let a = length-map ps (λ p. p.candidate.id) in
            let b = length-map (others id ps) (λ p. p.candidate.id) in
            let l = length_part (part-others id ps) in
            let h = g.room in
            omega arith;
        order = others id g.order;
        present = perm-others id g.present;
        sorted = pairwise-part Before (part-others id g.order) g.sorted;
        listed = taken_out id g.order order-unlike ∙ ap (remove id) g.listed;
      }

  accepted-call : (call : Call) → CallF64 call → settle ps call ≡ accepted → Good (suc n) (changed call cs) (accept n call ps)
  unfolding CallF64 changed accept
  accepted-call (arrival c) f ok = arrived c f ok
  accepted-call (departure id) f ok = departed id

-- ---- the same in memory
record Held (n : ℕ) (m : Memory) (ps : List Present) : Type 0 where
  sized : Sized m
  counted : m.count ≡ length (listed m)
  good : Good n (listed m) ps

module _ (n : ℕ) (m : Memory) (ps : List Present) (h : Held n m ps) where
  as_long : length m.ids ≡ length m.densities
  as_long = h.sized.ids ∙ sym h.sized.densities

  current : Current m ps
  current =
      record {
        order = h.good.order;
        present = h.good.present;
        sorted = h.good.sorted;
        laid = rw h.good.listed (listed-laid m as_long h.counted);
        once = order-unlike n (listed m) ps h.good;
        room = fits n (listed m) ps h.good;
      }

module _ (n : ℕ) (m : Memory) (ps : List Present) (h : Held n m ps) (call : Call) where
  answered : answer m call ≡ settle ps call
  unfolding answer settle
  answered = rw (← listed-ids m (as_long n m ps h)) (check_perm (same-ids n (listed m) ps h.good) call)

  called : CallF64 call → Held (suc n) (left m call) (after n ps call)
  unfolding left after unless_refused
  called f = rw answered (go (settle ps call) refl)
    where
      go : (v : Verdict) → settle ps call ≡ v
          → Held (suc n) (unless_refused v m (holding m (changed call (listed m)))) (unless_refused v ps (accept n call ps))
      go accepted e =
          let cs = changed call (listed m) in
          let g = accepted-call n (listed m) ps h.good call f e in
          let l = ap length g.listed in
          let k = length-map g.order (λ p. p.candidate) in
          let r = fits (suc n) cs (accept n call ps) g in
          record {
            sized = sized-holding m cs h.sized (omega arith);
            counted = count-holding m cs;
            good = rw (listed-holding m cs) g;
          }
      go (rejected k) e = record { sized = h.sized; counted = h.counted; good = kept n (listed m) ps h.good }

-- ---- every list of calls
throughout : (n : ℕ) (m : Memory) (ps : List Present) → Held n m ps → (calls : List Call) → Every CallF64 calls → Throughout n ps m calls
unfolding Every Throughout
throughout n m ps h [] f = tt
throughout n m ps h (call ∷ calls) f =
    λ v m' c.
    let ps' = after n ps call in
    let h' : Held (suc n) m' ps' = rw c.1 (called n m ps h call f.0) in
    (c.0 ∙ answered n m ps h call, current (suc n) m' ps' h', throughout (suc n) m' ps' h' calls f.1)

started : (m : Memory) → Empty m → Held 0 m []
unfolding listed Every Pairwise
started m e =
    record {
      sized = e.sized;
      counted = rw e.count;
      good =
          record {
            known = tt;
            unlike = tt;
            room = omega arith;
            order = [];
            present = Permᴰ.nil;
            sorted = tt;
            listed = rw e.count;
          };
    }

pub kept_current : KeptCurrent
unfolding KeptCurrent
kept_current m e calls f = throughout 0 m [] (started m e) calls f
