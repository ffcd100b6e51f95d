-- Demand 3 of the contract (`Demand3` of specs/Demand3.antt): for every path that starts with powers 1.0 and every list of bounces on it, after every bounce each power is a number from 0 to what it was
-- and equals the reckoning's to the last bit, on glass the shares lie from 0 to 1 and add up to exactly 1.0, and each density handed out is finite and not below 0.
-- By induction on the list: a path whose powers are numbers from 0 to 1 (`Ready`) goes to such a path, since each weight is a number from 0 to 1.
use Rattle.std.proofs.Common.{◌≡◌, Some, None, Bool, true, false, cond, ◌&&◌, T, List, sym, refl, ◌∙◌, subst, inl, le_refl, lt_of_le_of_lt}
use lib.Ieee.{Float, fits, le}
use lib.Ieee.Fits.{and_l, and_r}
use Rattle.floats.specs.Float.{f0, f1, within, is_finite}
use Rattle.numbers.specs.Onb.{basis, to_world}
use Rattle.numbers.specs.declared.vec3.Vec3.{Vec3}
use Rattle.floats.proofs.Rounding.Units.{U_O}
use Rattle.floats.proofs.Rounding.NonNegative.{Ext, share_of, ext_le}
use Rattle.optics.specs.Surface.{Outside, Microsurface, constant_eta}
use Rattle.optics.specs.Bxdf.{Scattered, scattered, totally, rest}
use Rattle.optics.specs.Bxdf as Bxdf
use Rattle.optics.specs.Density.{pdf}
use Rattle.numbers.specs.Refusal.{Verdict, accepted, rejected, unless_refused}
use Rattle.optics.specs.declared.color.Color.{Color}
use Rattle.optics.specs.declared.microfacet.Kind.{Kind}
use Rattle.optics.specs.declared.microfacet.Kind.TheVariants.{Metal, Glass}
use Rattle.optics.proofs.Densities.{density_not_below}
use Rattle.optics.proofs.Spectra.{all_fit}
use Rattle.optics.proofs.Outer.{outer_fit}
use Rattle.path.specs.declared.records.Path.{Path}
use Rattle.path.specs.declared.records.Bounce.{Bounce}
use Rattle.optics.specs.Color.{all4}
use Rattle.path.specs.Path.{path, ones, leading, terminate, is_filter, weighed}
use Rattle.path.specs.Bounce.{advanced, check_bounce, left_on_glass, left_on, lambda_on, local_wo, share, scatter, weights_from, weights}
use Rattle.path.specs.Reckoning.{reckon}
use Rattle.path.specs.Answer.{Outcome, outcome, density_of, density, shares_on, shares, branch_of, worked, on_surface, answered, bounce, path_of}
use Rattle.path.specs.Demand3.{F64, ColorF64, Step, StepF64, AllFell, SharesHold, DensityHolds, AnswerHolds, Run, end, bounced, Throughout, Demand3, NeverTotal}
use Rattle.path.proofs.Checks.{accepted_of}
use Rattle.path.proofs.Weights.{Weight, whole, weighed_down, weight_from_lem}
use Rattle.path.proofs.Sampled.{Given, leading-fits, leading_in, shares_hold, never_total, shadowing-weight}

-- ---- a path between bounces: wavelengths of binary64, and powers from 0 to 1
pub record Weights4 (a : Color) : Type 0 where
  pub w0 : Weight a.s0
  pub w1 : Weight a.s1
  pub w2 : Weight a.s2
  pub w3 : Weight a.s3

pub record Ready (p : Path) : Type 0 where
  pub lambda : ColorF64 p.lambda
  pub power : Weights4 p.power

start_ready : (lambda : Color) → ColorF64 lambda → Ready (path lambda ones)
unfolding ones
start_ready lambda f = record { lambda = f; power = record { w0 = whole; w1 = whole; w2 = whole; w3 = whole } }

-- ---- filters, and wavelengths that ended
weight_of : (x : Float) → F64 x → T (is_filter x) → Weight x
unfolding is_filter within
weight_of x f t = record { fits_x = f; low = and_l (le f0 x) (le x f1) t; high = and_r (le f0 x) (le x f1) t }

pub filters : (a : Color) → ColorF64 a → T (all4 is_filter a) → Weights4 a
filters a f t =
    let h = each (is_filter a.s0) (is_filter a.s1) (is_filter a.s2) (is_filter a.s3) t in
    record {
      w0 = weight_of a.s0 f.0 h.0;
      w1 = weight_of a.s1 f.1 h.1;
      w2 = weight_of a.s2 f.2 h.2;
      w3 = weight_of a.s3 f.3 h.3;
    }
  where
    each : (x y z w : Bool) → T (x && y && z && w) → T x × T y × T z × T w
    each true true true w t = (tt, tt, tt, t)
    each false y z w t = elim t [ ]
    each true false z w t = elim t [ ]
    each true true false w t = elim t [ ]

left_fits : (kind : Kind) (eta : List Float) (outside : Outside) (lambda : Color) → ColorF64 lambda → ColorF64 (left_on kind eta outside lambda)
unfolding left_on left_on_glass terminate leading fits
left_fits Metal eta outside lambda f = f
left_fits Glass eta outside lambda f = go (constant_eta eta outside)
  where
    go : (constant : Bool) → ColorF64 (cond constant lambda (terminate lambda))
    go true = f
    go false = (f.0, tt, tt, tt)

lambda-fits : (m : Microsurface) (lambda : Color) → ColorF64 lambda → ColorF64 (lambda_on m lambda)
unfolding lambda_on
lambda-fits m lambda f = left_fits m.kind m.eta m.outside lambda f

-- ---- a refused bounce: the same powers are no larger
same_power : (x : Float) → Weight x → T (le f0 x) × T (le x x)
same_power x w =
    let s = share_of x w.fits_x w.low w.high in
    let e : Ext x s.0 = inl (lt_of_le_of_lt s.2 U_O, s.1) in
    (w.low, ext_le x x s.0 s.0 e e (le_refl s.0))

unchanged : (a : Color) → Weights4 a → AllFell a a
unchanged a w = (same_power a.s0 w.w0, same_power a.s1 w.w1, same_power a.s2 w.w2, same_power a.s3 w.w3)

-- ---- powers times weights
lowered : (power weight : Color) → Weights4 power → Weights4 weight → AllFell power (weighed power weight) × Weights4 (weighed power weight)
unfolding weighed
lowered power weight p w =
    let h0 = weighed_down power.s0 weight.s0 p.w0 w.w0 in
    let h1 = weighed_down power.s1 weight.s1 p.w1 w.w1 in
    let h2 = weighed_down power.s2 weight.s2 p.w2 w.w2 in
    let h3 = weighed_down power.s3 weight.s3 p.w3 w.w3 in (
      ((h0.0.low, h0.1), (h1.0.low, h1.1), (h2.0.low, h2.1), (h3.0.low, h3.1)),
      record { w0 = h0.0; w1 = h1.0; w2 = h2.0; w3 = h3.0 },
    )

-- ---- what one bounce keeps: `o` is its answer, and `next` the reckoning's state after it
pub record Kept (p : Path) (kind : Kind) (o : Outcome) (next : Path) : Type 0 where
  pub powers : AllFell p.power (path_of o).power
  pub product : path_of o ≡ next
  pub answer : AnswerHolds kind o
  pub ready : Ready (path_of o)

-- ---- an accepted bounce
module _ (p : Path) (m : Microsurface) (b : Bounce) (r : Ready p) (h : Given p m b) where
  weights4 : Weights4 (weights m (lambda_on m p.lambda) b)
  unfolding weights weights_from
  weights4 =
      let lambda = lambda_on m p.lambda in
      let s = scatter m lambda b in
      let ks = filters b.ks h.step.ks h.ok.ks in
      let tf = filters b.tf h.step.tf h.ok.tf in
      let q = shadowing-weight p m b h in
      record {
        w0 = weight_from_lem s m lambda b lambda.s0 b.ks.s0 b.tf.s0 q ks.w0 tf.w0;
        w1 = weight_from_lem s m lambda b lambda.s1 b.ks.s1 b.tf.s1 q ks.w1 tf.w1;
        w2 = weight_from_lem s m lambda b lambda.s2 b.ks.s2 b.tf.s2 q ks.w2 tf.w2;
        w3 = weight_from_lem s m lambda b lambda.s3 b.ks.s3 b.tf.s3 q ks.w3 tf.w3;
      }

  advanced-fell : AllFell p.power (advanced p m b).power × Ready (advanced p m b)
  unfolding advanced
  advanced-fell =
      let l = lowered p.power (weights m (lambda_on m p.lambda) b) r.power weights4 in
      (l.0, record { lambda = lambda-fits m p.lambda r.lambda; power = l.1 })

  shares_on_lem : (kind : Kind) → m.kind ≡ kind → SharesHold kind (shares_on kind (share m (lambda_on m p.lambda) b))
  unfolding shares_on rest
  shares_on_lem Metal e = tt
  shares_on_lem Glass e = let s = shares_hold p m b h e in (refl, (s.first.1, s.first.2), (s.second.1, s.second.2), s.whole)

  shares_of : SharesHold m.kind (shares m (lambda_on m p.lambda) b)
  unfolding shares
  shares_of = shares_on_lem m.kind refl

  density-holds : (wi : Vec3) (reflection : Bool) → DensityHolds (density m (lambda_on m p.lambda) b wi reflection)
  unfolding density density_of
  density-holds wi reflection = go (is_finite x) refl
    where
      lambda : Float
      lambda = leading (lambda_on m p.lambda)

      x : Float
      x = pdf m (local_wo b) wi reflection lambda

      go : (f : Bool) → is_finite x ≡ f → DensityHolds (cond f (Some x) None)
      go true e =
          let t = subst T (sym e) tt in (
            t,
            density_not_below m (local_wo b) wi reflection lambda (all_fit m.eta h.step.eta) (all_fit m.k h.step.k) (outer_fit m.outside h.step.outer)
                (leading-fits p m b h) h.ok.eta h.ok.k h.ok.outer (leading_in p m b h) t,
          )
      go false e = tt

  branch_kept : (reflection : Bool) (w wi : Vec3)
      → Kept p m.kind (branch_of reflection w (density m (lambda_on m p.lambda) b wi reflection) (shares m (lambda_on m p.lambda) b) (advanced p m b)) (advanced p m b)
  unfolding branch_of path_of
  branch_kept true w wi = record { powers = advanced-fell.0; product = refl; answer = (shares_of, density-holds wi true); ready = advanced-fell.1 }
  branch_kept false w wi = record { powers = advanced-fell.0; product = refl; answer = (shares_of, density-holds wi false); ready = advanced-fell.1 }

  worked_kept : (s : Scattered) → Kept p m.kind (worked s m (lambda_on m p.lambda) b (advanced p m b)) (advanced p m b)
  unfolding worked path_of
  worked_kept (scattered wi reflection) = branch_kept reflection (to_world (basis b.normal) wi) wi
  worked_kept Bxdf.lost = record { powers = advanced-fell.0; product = refl; answer = shares_of; ready = advanced-fell.1 }
  worked_kept totally = record { powers = advanced-fell.0; product = refl; answer = shares_of; ready = advanced-fell.1 }

-- ---- any bounce
bounce_kept : (p : Path) (s : Step) → StepF64 s → Ready p → Kept p s.surface.kind (bounce p s.surface s.bounce) (reckon p s.surface s.bounce)
unfolding bounce reckon on_surface answered unless_refused path_of
bounce_kept p s f r = go (check_bounce p m b) refl
  where
    m : Microsurface
    m = s.surface

    b : Bounce
    b = s.bounce

    go : (v : Verdict) → check_bounce p m b ≡ v → Kept p m.kind (answered v p (worked (scatter m (lambda_on m p.lambda) b) m (lambda_on m p.lambda) b (advanced p m b))) (unless_refused v p (advanced p m b))
    go accepted e = worked_kept p m b r (record { step = f; lambda = r.lambda; ok = accepted_of p m b e }) (scatter m (lambda_on m p.lambda) b)
    go (rejected n) e = record { powers = unchanged p.power r.power; product = refl; answer = tt; ready = r }

-- ---- any list
throughout : (p : Path) → Ready p → (run : Run p) → Throughout p run
unfolding Throughout
throughout p r end = tt
throughout p r (bounced s f a c q e run) =
    let m = s.surface in
    let b = s.bounce in
    let k : Kept p m.kind (outcome a) (reckon p m b) =
    subst (λ (o : Outcome). Kept p m.kind o (reckon p m b)) (sym c) (bounce_kept p s f r) in
    let next : q ≡ reckon p m b = e ∙ k.product in
    let rest : Throughout q run = throughout q (subst Ready (sym e) k.ready) run in (
      record {
        powers = subst (λ (z : Path). AllFell p.power z.power) (sym e) k.powers;
        product = next;
        answer = k.answer;
      },
      subst (λ (z : Path). Throughout z run) next rest,
    )

pub demand_3 : Demand3
unfolding Demand3
demand_3 lambda f run = throughout (path lambda ones) (start_ready lambda f) run

-- ---- total reflection is never met
pub never_meets_total : NeverTotal
unfolding NeverTotal
never_meets_total p s lambda f e t =
    never_total p s.surface s.bounce (record { step = f; lambda = lambda; ok = accepted_of p s.surface s.bounce e }) t
