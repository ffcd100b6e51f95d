-- What an accepted call makes of who is present and of their order: an arrival is put in where `insert` puts it (`put_in`),
-- a departure takes out what `remove` takes out (`taken_out`). By induction on the order. Of `goes_before` only `asym` and `cotrans` are used.
use Prim.Native.Nat.{ℕ, ◌<◌}
use mathlib.Core.Path.{◌≡◌, refl, sym, ap, ◌∙◌}
use mathlib.Core.Bool.{Bool, true, false, not, ◌&&◌, ◌||◌, cond, or_assoc, or_comm}
use mathlib.Core.Logic.{inl, inr, ite}
use mathlib.Core.List.{List, [], ◌∷◌, map, filter, Sublistᴰ, filter-Sublistᴰ}
use mathlib.Core.List.Permᴰ
use mathlib.Core.List.{Permᴰ}
use lib.Dec.{T, eqb, ltb, eqb→eq, eqb_refl, lt→ltb}
use Rattle.floats.proofs.Rounding.Units.{either}
use Rattle.candidates.specs.Candidate.{is_id, Candidate, goes_before, has_id}
use Rattle.candidates.specs.Memory.{Call, arrival, departure, is_among, check, insert, remove}
use Rattle.candidates.specs.Current.{Present, others, before, Every, Pairwise}
use Rattle.candidates.proofs.Order.{Ready, asym, cotrans}
use Rattle.candidates.proofs.Sorted.{every_both, length-perm, every-perm}

abbrev pub candidates : List Present → List Candidate
candidates ps = map (λ p. p.candidate) ps

abbrev pub ids : List Present → List ℕ
ids ps = map (λ p. p.candidate.id) ps

abbrev pub Before : Present → Present → Type 0
Before a b = T (before a b)

abbrev pub Unlike : Present → Present → Type 0
Unlike a b = a.candidate.id ≡ b.candidate.id → ⊥

-- ---- who is among some ids: their order doesn't matter
among_perm : (id : ℕ) {xs ys : List ℕ} → Permᴰ xs ys → is_among id xs ≡ is_among id ys
among_perm id Permᴰ.nil = refl
among_perm id (Permᴰ.cons e d) = rw (e, among_perm id d)
among_perm id (Permᴰ.swap {a = x} {b = y} {l = l} e f) = rw (← e, ← f) (turn (is_id id x) (is_id id y) (is_among id l))
  where
    turn : (a b c : Bool) → (a || (b || c)) ≡ (b || (a || c))
    turn a b c = sym (or_assoc a b c) ∙ ap (λ (d : Bool). d || c) (or_comm a b) ∙ or_assoc b a c
among_perm id (Permᴰ.trans d e) = among_perm id d ∙ among_perm id e

pub check_perm : {xs ys : List ℕ} → Permᴰ xs ys → (call : Call) → check xs call ≡ check ys call
unfolding check
check_perm d (arrival c) = rw (length-perm d, among_perm c.id d)
check_perm d (departure id) = rw (among_perm id d)

pub none_among : (p : Present) (ps : List Present) → (T (is_among p.candidate.id (ids ps)) → ⊥) → Every (Unlike p) ps
unfolding Every
none_among p [] n = tt
none_among p (q ∷ qs) n =
    let this = is_id p.candidate.id q.candidate.id in
    let rest = is_among p.candidate.id (ids qs) in (
      λ e. n (either this rest (inl (rw e (eqb_refl q.candidate.id)))),
      none_among p qs (λ t. n (either this rest (inr t))),
    )

-- ---- the order, by the tests of `before`
later_behind : (g h k : Bool) → (T h → ⊥) → T k → T (g || (not h && k))
later_behind true h k n t = tt
later_behind false true k n t = n tt
later_behind false false k n t = t

not_ahead : (g h k : Bool) → T (g || (not h && k)) → (T g → T h → ⊥) → T h → ⊥
not_ahead true h k t n s = n tt s
not_ahead false true k t n s = t
not_ahead false false k t n s = elim s [ ]

-- what is known of who is present once n calls were made
pub record Known (n : ℕ) (p : Present) : Type 0 where
  pub ready : Ready p.candidate
  pub early : p.call < n

-- ---- an arrival: c's, by call n
module _ (c : Candidate) (n : ℕ) (r : Ready c) where
  abbrev new : Present
  new = record { call = n; candidate = c }

  behind : (y : Present) → Known n y → (T (goes_before c y.candidate) → ⊥) → Before y new
  unfolding before
  behind y k h =
      later_behind (goes_before y.candidate c) (goes_before c y.candidate) (ltb y.call n) h
      (lt→ltb y.call n k.early)

  ahead : (y : Present) → T (goes_before c y.candidate) → Before new y
  unfolding before
  ahead y t = either (goes_before c y.candidate) (not (goes_before y.candidate c) && ltb n y.call) (inl t)

  -- c goes before what stands behind one that it goes before
  ahead_on : (y z : Present) → Known n y → T (goes_before c y.candidate) → Known n z → Before y z → Before new z
  unfolding before
  ahead_on y z k t l b =
      let g = goes_before y.candidate z.candidate in
      let h = goes_before z.candidate y.candidate in
      ahead z (cotrans c y.candidate z.candidate r k.ready l.ready t
      (not_ahead g h (ltb y.call z.call) b (asym y.candidate z.candidate k.ready l.ready)))

  -- the order ys with the new one put in
  pub record PutIn (ys : List Present) : Type 0 where
    pub order : List Present
    pub present : Permᴰ order (new ∷ ys)
    pub sorted : Pairwise Before order
    pub listed : candidates order ≡ insert c (candidates ys)

  pub put_in : (ys : List Present) → Every (Known n) ys → Pairwise Before ys → PutIn ys
  unfolding Every Pairwise insert
  put_in [] k s = record { order = new ∷ []; present = Permᴰ.refl (new ∷ []); sorted = (tt, tt); listed = refl }
  put_in (y ∷ ys) k s = go (goes_before c y.candidate) refl (put_in ys k.1 s.1)
    where
      go : (b : Bool) → goes_before c y.candidate ≡ b → PutIn ys → PutIn (y ∷ ys)
      go true e p =
          let t : T (goes_before c y.candidate) = rw e tt in
          record {
            order = new ∷ y ∷ ys;
            present = Permᴰ.refl (new ∷ y ∷ ys);
            sorted = ((ahead y t, every_both (Known n) (Before y) (Before new) (λ z. ahead_on y z k.0 t) ys k.1 s.0), s);
            listed = rw e;
          }
      go false e p =
          record {
            order = y ∷ p.order;
            present = Permᴰ.trans (Permᴰ.cons refl p.present) (Permᴰ.swap refl refl);
            sorted = (
              every-perm (Before y) (Permᴰ.symm p.present) (behind y k.0 (λ t. rw e at t), s.0),
              p.sorted,
            );
            listed = rw (e, p.listed);
          }

-- ---- a departure
abbrev keep : (b : Bool) → Dec (T (not b))
keep true = no (λ t. t)
keep false = yes tt

module _ (id : ℕ) where
  abbrev stays : (p : Present) → Dec (T (not (has_id id p.candidate)))
  stays p = keep (has_id id p.candidate)

  -- so that what mathlib knows of `filter` holds of the others
  others-filter : (ps : List Present) → others id ps ≡ filter stays ps
  unfolding others
  others-filter [] = refl
  others-filter (p ∷ ps) = go (has_id id p.candidate) (others-filter ps)
    where
      go : (b : Bool) → others id ps ≡ filter stays ps
          → cond b (others id ps) (p ∷ others id ps) ≡ ite (keep b) (p ∷ filter stays ps) (filter stays ps)
      go true e = e
      go false e = rw e

  pub perm-others : {ps qs : List Present} → Permᴰ ps qs → Permᴰ (others id ps) (others id qs)
  perm-others {ps} {qs} d = rw (others-filter ps, others-filter qs) (Permᴰ.filter stays d)

  pub part-others : (ps : List Present) → Sublistᴰ (others id ps) ps
  part-others ps = rw (others-filter ps) (filter-Sublistᴰ stays ps)

  -- all the others stay, where one besides them has the id
  all_others : (p : Present) (ps : List Present) → T (has_id id p.candidate) → Every (Unlike p) ps → others id ps ≡ ps
  unfolding Every others
  all_others p [] h u = refl
  all_others p (q ∷ qs) h u = go (eqb q.candidate.id id) refl (all_others p qs h u.1)
    where
      go : (b : Bool) → eqb q.candidate.id id ≡ b → others id qs ≡ qs → cond b (others id qs) (q ∷ others id qs) ≡ q ∷ qs
      go true e k = absurd (u.0 (eqb→eq p.candidate.id id h ∙ sym (eqb→eq q.candidate.id id (rw e tt))))
      go false e k = rw k

  -- `remove` takes out one, `others` all that have the id: where no id stands twice, the same
  pub taken_out : (ps : List Present) → Pairwise Unlike ps → candidates (others id ps) ≡ remove id (candidates ps)
  unfolding Pairwise others remove
  taken_out [] u = refl
  taken_out (p ∷ ps) u = go (has_id id p.candidate) refl (taken_out ps u.1)
    where
      go : (b : Bool) → has_id id p.candidate ≡ b → candidates (others id ps) ≡ remove id (candidates ps)
          → candidates (cond b (others id ps) (p ∷ others id ps)) ≡ cond b (candidates ps) (p.candidate ∷ remove id (candidates ps))
      go true e k = ap candidates (all_others p ps (rw e tt) u.0)
      go false e k = rw k
