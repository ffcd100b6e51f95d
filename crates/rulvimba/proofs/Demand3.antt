-- Demand 3 through the C library (`Demand3` of specs/Demand3.antt).
-- What a call writes to memory is what the next one reads (`left`), so a list of calls is a `Run` of path's `Demand3` (`run_of`), and what holds after each of its bounces holds of the doubles in memory and of the record that the call returned (`after_call`). A call on a book's surface is one of those calls (`as_call`).
use Prim.Native.Nat.{ℕ, zero, suc, ◌<◌, ◌≤◌}
use native.Mathlib.Omega.{arith}
use mathlib.Core.Path.{◌≡◌, refl, sym, ap, ◌∙◌, subst}
use mathlib.Core.Bool.{Bool, true, false}
use mathlib.Core.List.{List}
use lib.Dec.{leb}
use lib.Ieee.{Float, le}
use lib.ListN.{length}
use borrow.Author.Tests.{leb-true, leb-false}
use Rattle.std.proofs.Common.{Option, Some, None, Result, Ok, Err}
use Rattle.floats.specs.Float.{f0, is_finite}
use Rattle.numbers.specs.Refusal.{Verdict, accepted, rejected}
use Rattle.numbers.specs.declared.refusal.Refusal.{Refusal}
use Rattle.numbers.proofs.refusal.Numbers.{number_positive}
use Rattle.optics.specs.Surface.{Microsurface, kind_code, kind_of}
use Rattle.optics.specs.Bxdf.{Scattered, scattered, totally}
use Rattle.optics.specs.Bxdf as Bxdf
use Rattle.optics.specs.declared.color.Color.{Color}
use Rattle.optics.specs.declared.microfacet.Kind.{Kind}
use Rattle.optics.specs.declared.microfacet.Kind.TheVariants.{Metal, Glass}
use Rattle.path.specs.declared.records.Path.{Path}
use Rattle.path.specs.declared.records.Bounce.{Bounce}
use Rattle.path.specs.declared.records.Shares.{Shares}
use Rattle.path.specs.declared.records.Bounced.{Bounced}
use Rattle.path.specs.declared.records.Light.{Light}
use Rattle.path.specs.declared.records.Light.TheVariants as L
use Rattle.path.specs.declared.plain.BounceResult.{BounceResult}
use Rattle.path.specs.Path.{path, ones, start}
use Rattle.path.specs.Bounce.{check_bounce, lambda_on, scatter, advanced}
use Rattle.path.specs.Answer.{two_shares, Outcome, outcome_of, outcome, branch_of, worked, on_surface, answered, bounce, path_of}
use Rattle.path.specs.Plain.{density_record, shares_record, bounce_result}
use Rattle.path.specs.Demand3 as Path
use Rattle.path.specs.Demand3.{ColorF64, StepF64, Holds, SharesHold, DensityHolds, AnswerHolds, Run, end, bounced, Throughout, Answered}
use Rattle.path.proofs.Demand3.{demand_3}
use Rattle.path.proofs.Answers.{answers}
use Rattle.rulvimba.specs.declared.surfaces.SurfaceRecord.{SurfaceRecord}
use Rattle.book.specs.declared.record.Record.{Record}
use Rattle.rulvimba.specs.Surfaces.{surface_of, surface_with}
use Rattle.rulvimba.specs.Paths.{path_in, numbers_of, path_started, path_after, BounceCall}
use Rattle.rulvimba.specs.Calls.{Call, step_of, as_call, BookBounceCall, BookCallIsCall}
use Rattle.rulvimba.specs.Demand3.{Laid, CallHolds, Calls, done, called, called_on_book, reckoned, AfterEach, Demand3}
use Rattle.rulvimba.proofs.UnknownKind.{unknown-checked}
use Rattle.rulvimba.proofs.BookBounce.{book_call_is_call}

-- ---- where the doubles of a path that is read from memory stand
laid : (q : Path) (xs : List Float) → length xs ≡ 8 → path_in xs ≡ q → Laid q xs
unfolding path_in
laid q xs n e = record {
  eight = n;
  lambda = (ap (λ (p : Path). p.lambda.s0) e, ap (λ (p : Path). p.lambda.s1) e, ap (λ (p : Path). p.lambda.s2) e, ap (λ (p : Path). p.lambda.s3) e);
  power = (ap (λ (p : Path). p.power.s0) e, ap (λ (p : Path). p.power.s1) e, ap (λ (p : Path). p.power.s2) e, ap (λ (p : Path). p.power.s3) e);
}

-- ---- what a path that is written reads as
kept : (p : Path) → path_in (numbers_of p) ≡ p
unfolding path_in numbers_of
kept p = refl

all_eight : (p : Path) → length (numbers_of p) ≡ 8
unfolding numbers_of
all_eight p = refl

-- ---- what a bounce leaves in memory: the path that its answer carries, and what was there if it's refused
record Left (xs : List Float) (o : Outcome) : Type 0 where
  next : path_in (path_after xs o) ≡ path_of o
  eight : length xs ≡ 8 → length (path_after xs o) ≡ 8
  same : 0 < (bounce_result o).number → path_after xs o ≡ xs

stored : (xs : List Float) (o : Outcome) → path_after xs o ≡ numbers_of (path_of o) → (bounce_result o).number ≡ 0 → Left xs o
stored xs o e n = record {
  next = ap path_in e ∙ kept (path_of o);
  eight = λ _. ap length e ∙ all_eight (path_of o);
  same = λ h. absurd (omega arith);
}

left : (xs : List Float) (m : Microsurface) (b : Bounce) → Left xs (bounce (path_in xs) m b)
unfolding bounce answered on_surface worked branch_of path_of path_after bounce_result
left xs m b = go (check_bounce p m b)
  where
    p : Path
    p = path_in xs

    on : (s : Scattered) → Left xs (worked s m (lambda_on m p.lambda) b (advanced p m b))
    on (scattered wi true) = stored xs _ refl refl
    on (scattered wi false) = stored xs _ refl refl
    on Bxdf.lost = stored xs _ refl refl
    on totally = stored xs _ refl refl

    go : (v : Verdict) → Left xs (answered v p (worked (scatter m (lambda_on m p.lambda) b) m (lambda_on m p.lambda) b (advanced p m b)))
    go accepted = on (scatter m (lambda_on m p.lambda) b)
    go (rejected n) = record { next = refl; eight = λ e. e; same = λ _. refl }

-- ---- what the record of an answer says of shares and density
record Handed (kind : Kind) (r : BounceResult) : Type 0 where
  given : r.number ≡ 0 → r.shares.given ≡ kind_code kind
  shares : r.shares.given ≡ 1 → SharesHold Glass (Some (two_shares r.shares.reflected r.shares.passed))
  density : DensityHolds (Some r.density.value)

no_density_lem : DensityHolds (Some f0)
unfolding is_finite le
no_density_lem = (tt, tt)

density_record_lem : (d : Option Float) → DensityHolds d → DensityHolds (Some (density_record d).value)
unfolding density_record
density_record_lem (Some x) h = h
density_record_lem None h = no_density_lem

shares_given : (kind : Kind) (s : Option Shares) → SharesHold kind s → (shares_record s).given ≡ kind_code kind
unfolding shares_record kind_code
shares_given Metal None h = refl
shares_given Metal (Some F) h = absurd h
shares_given Glass None h = absurd h
shares_given Glass (Some F) h = refl

shares_record_lem : (kind : Kind) (s : Option Shares) → SharesHold kind s → (shares_record s).given ≡ 1 → SharesHold Glass (Some (two_shares (shares_record s).reflected (shares_record s).passed))
unfolding shares_record
shares_record_lem Metal None h e = absurd (omega arith)
shares_record_lem Metal (Some F) h e = absurd h
shares_record_lem Glass None h e = absurd h
shares_record_lem Glass (Some F) h e = h

by_light : (kind : Kind) (p : Path) (light : Result Light Refusal) → AnswerHolds kind (outcome_of p light) → Handed kind (bounce_result (outcome_of p light))
unfolding branch_of bounce_result
by_light kind p (Err why) h = record { given = λ e. let z = number_positive why in absurd (omega arith); shares = λ e. absurd (omega arith); density = no_density_lem }
by_light kind p (Ok (L.Lost shares)) h = record { given = λ _. shares_given kind shares h; shares = shares_record_lem kind shares h; density = no_density_lem }
by_light kind p (Ok (L.Sent true wi density shares)) h = record { given = λ _. shares_given kind shares h.0; shares = shares_record_lem kind shares h.0; density = density_record_lem density h.1 }
by_light kind p (Ok (L.Sent false wi density shares)) h = record { given = λ _. shares_given kind shares h.0; shares = shares_record_lem kind shares h.0; density = density_record_lem density h.1 }

handed : (kind : Kind) (a : Bounced) → AnswerHolds kind (outcome a) → Handed kind (bounce_result (outcome a))
unfolding outcome
handed kind a h = by_light kind a.path a.light h

-- ---- the number of the kind, which is 0 or 1 unless the bounce is refused
kind_kept : (n : ℕ) → n ≤ 1 → kind_code (kind_of n) ≡ n
unfolding kind_code kind_of
kind_kept zero h = refl
kind_kept (suc zero) h = refl
kind_kept (suc (suc n)) h = absurd (omega arith)

unknown_refused : (p : Path) (s : SurfaceRecord) (eta k outer : List Float) (b : Bounce) → 1 < s.kind → (bounce_result (bounce p (surface_with s eta k outer) b)).number ≡ 1
unfolding bounce check_bounce answered bounce_result
unknown_refused p s eta k outer b h = rw (unknown-checked s eta k outer h)

kind-known : (p : Path) (s : SurfaceRecord) (eta k outer : List Float) (b : Bounce) → (bounce_result (bounce p (surface_with s eta k outer) b)).number ≡ 0 → kind_code (surface_of s).kind ≡ s.kind
unfolding surface_of
kind-known p s eta k outer b e = go (leb s.kind 1) refl
  where
    go : (known : Bool) → leb s.kind 1 ≡ known → kind_code (kind_of s.kind) ≡ s.kind
    go true t = kind_kept s.kind (leb-true _ _ t)
    go false t = let z = unknown_refused p s eta k outer b (leb-false _ _ t) in absurd (omega arith)

-- ---- the run of a list of calls
answer_of : (xs : List Float) (c : Call) → (a : Bounced) × (outcome a ≡ bounce (path_in xs) (step_of c).surface c.bounce)
unfolding Answered
answer_of xs c = answers (path_in xs) (step_of c)

-- one call before the others
abbrev first : (xs : List Float) (c : Call) → StepF64 (step_of c) → (r : BounceResult) (ys : List Float) → BounceCall xs c.surface c.eta c.k c.outer c.bounce r ys → Run (path_in ys) → Run (path_in xs)
first xs c f r ys h run =
    let a = answer_of xs c in
    let l = left xs (step_of c).surface c.bounce in
    bounced (step_of c) f a.0 a.1 (path_in ys) (ap path_in h.1 ∙ l.next ∙ ap path_of (sym a.1)) run

of_book : (xs : List Float) (s : Record) (b : Bounce) (r : BounceResult) (ys : List Float) → BookBounceCall xs s b r ys
    → let c = as_call s b in BounceCall xs c.surface c.eta c.k c.outer c.bounce r ys
unfolding BookCallIsCall
of_book = book_call_is_call

run_of : {xs : List Float} → Calls xs → Run (path_in xs)
run_of done = end
run_of {xs} (called c f r ys h calls) = first xs c f r ys h (run_of calls)
run_of {xs} (called_on_book s b f r ys h calls) = first xs (as_call s b) f r ys (of_book xs s b r ys h) (run_of calls)

-- ---- what holds after each bounce of the run holds after each call
eight_left : (xs : List Float) (c : Call) (r : BounceResult) (ys : List Float) → length xs ≡ 8 → BounceCall xs c.surface c.eta c.k c.outer c.bounce r ys → length ys ≡ 8
eight_left xs c r ys n h = ap length h.1 ∙ (left xs (step_of c).surface c.bounce).eight n

after_call : (q : Path) (xs : List Float) (c : Call) (r : BounceResult) (ys : List Float) → length xs ≡ 8 → BounceCall xs c.surface c.eta c.k c.outer c.bounce r ys
    → Holds (path_in xs) (path_in ys) q (step_of c) (answer_of xs c).0 → CallHolds (reckoned q c) c xs r ys
unfolding path_in
after_call q xs c r ys n h t =
    let m = (step_of c).surface in
    let a = answer_of xs c in
    let result : r ≡ bounce_result (outcome a.0) = h.0 ∙ ap bounce_result (sym a.1) in
    let k : Handed m.kind r = subst (Handed m.kind) (sym result) (handed m.kind a.0 t.answer) in
    record {
      powers = t.powers;
      product = laid _ ys (eight_left xs c r ys n h) t.product;
      refused = λ z. h.1 ∙ (left xs m c.bounce).same (subst (λ (x : BounceResult). 0 < x.number) h.0 z);
      given = λ z. k.given z ∙ kind-known (path_in xs) c.surface c.eta c.k c.outer c.bounce (subst (λ (x : BounceResult). x.number ≡ 0) h.0 z);
      shares = k.shares;
      density = k.density;
    }

after_each : {xs : List Float} (q : Path) → length xs ≡ 8 → (calls : Calls xs) → Throughout q (run_of calls) → AfterEach q calls
unfolding Throughout AfterEach run_of
after_each q n done t = tt
after_each {xs} q n (called c f r ys h calls) t =
    (after_call q xs c r ys n h t.0, after_each _ (eight_left xs c r ys n h) calls t.1)
after_each {xs} q n (called_on_book s b f r ys h calls) t =
    let c = as_call s b in
    let g = of_book xs s b r ys h in
    (after_call q xs c r ys n g t.0, after_each _ (eight_left xs c r ys n g) calls t.1)

-- ---- from a start
from_start : (lambda : Color) (xs : List Float) → ColorF64 lambda → xs ≡ numbers_of (path lambda ones) → (calls : Calls xs) → AfterEach (path lambda ones) calls
unfolding Path.Demand3
from_start lambda xs f e calls =
    let p : path_in xs ≡ path lambda ones = ap path_in e ∙ kept (path lambda ones) in
    after_each (path lambda ones) (ap length e ∙ all_eight (path lambda ones)) calls
    (subst (λ (q : Path). (run : Run q) → Throughout (path lambda ones) run) (sym p) (demand_3 lambda f) (run_of calls))

pub demand_3_in_memory : Demand3
unfolding Demand3 start path_started
demand_3_in_memory lambda before n after f h = record {
  accepted = λ e.
      let m : after ≡ numbers_of (path lambda ones) = rw e at h.1 in
      (rw e at h.0, laid (path lambda ones) after (ap length m ∙ all_eight (path lambda ones)) (ap path_in m ∙ kept (path lambda ones)), from_start lambda after f m);
  refused = λ e. (rw e at h.0, rw e at h.1);
}
