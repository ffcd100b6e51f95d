-- Light that leaves exactly along the wall (`along_the_wall` proves `AlongTheWall` of specs/AlongTheWall.antt). q is by its definition; a filter from 0 to 1
-- times a q of 0 is from 0 to 0 (`Dark`), and so is a power times that weight.
use Rattle.std.proofs.Common.{◌≡◌, Bool, true, false, cond, ◌⊎◌, inl, inr, T}
use lib.Ieee.{Float, binary64, lt, le, eq}
use Rattle.floats.specs.Float.{◌⊗◌, f0}
use Rattle.floats.proofs.Rounding.Units.{product_comm}
use Rattle.std.proofs.lemmas.Float.{lt-or-eq, lt_irrefl, lt_of_lt_of_le, le_trans}
use Rattle.numbers.specs.DenseSpectrum.{terminated}
use Rattle.numbers.specs.declared.vec3.Vec3.{Vec3}
use Rattle.numbers.specs.Refusal.{accepted}
use Rattle.optics.specs.Surface.{Microsurface}
use Rattle.optics.specs.Bxdf.{scattered}
use Rattle.optics.specs.Color.{all4}
use Rattle.optics.specs.declared.color.Color.{Color}
use Rattle.path.specs.declared.records.Path.{Path}
use Rattle.path.specs.declared.records.Bounce.{Bounce}
use Rattle.path.specs.Path.{weighed, is_power, is_filter}
use Rattle.path.specs.Bounce.{advanced, check_bounce, lambda_on, fresnel_at, scatter, along_wall, shadowing, one_direction, shadowing_on, filter, weight, weight_from, weights_from, weights}
use Rattle.path.specs.Answer.{worked, on_surface, answered, bounce}
use Rattle.path.specs.Demand3.{ColorF64, Step, StepF64}
use Rattle.path.specs.AlongTheWall.{QIs, Zero, LeavesNone, AlongTheWall}
use Rattle.path.proofs.Checks.{accepted_of}
use Rattle.path.proofs.Weights.{Weight, none, weighed_down, taken-weight}
use Rattle.path.proofs.Demand3.{Weights4, filters}
use Rattle.path.proofs.WallSamples.{wall_samples}

-- ---- q
q_is : (m : Microsurface) (lambda : Color) (b : Bounce) (wi : Vec3) → QIs m lambda b wi
unfolding shadowing_on shadowing
q_is m lambda b wi =
    record {
      fixed = λ one. rw (one);
      wall = λ one along. rw (one, along);
      elsewhere = λ one along. rw (one, along);
    }

-- ---- a number from 0 to 0
record Dark (x : Float) : Type 0 where
  weight_x : Weight x
  high : T (le x f0)

nothing : Dark f0
unfolding le
nothing = record { weight_x = none; high = tt }

-- a product with such a number is such a number
darkened : (p w : Float) → Weight p → Dark w → Dark (p ⊗ w)
darkened p w a d =
    let h = weighed_down w p d.weight_x a in
    rw (product_comm binary64 p w) (record {
      weight_x = h.0;
      high = le_trans (w ⊗ p) w f0 h.1 d.high;
    })

-- it equals 0
dark_zero : (x : Float) → Dark x → Zero x
dark_zero x d = go (lt-or-eq x f0 d.high)
  where
    go : T (lt x f0) ⊎ T (eq x f0) → T (eq x f0)
    go (inl less) = absurd (lt_irrefl x (lt_of_lt_of_le x f0 x less d.weight_x.low))
    go (inr same) = same

-- ---- the weights where q is 0
dark_weight : (wavelength taken : Float) → Weight taken → Dark (weight wavelength taken f0)
unfolding weight
dark_weight wavelength taken t = go (eq wavelength terminated)
  where
    go : (z : Bool) → Dark (cond z f0 (taken ⊗ f0))
    go true = nothing
    go false = darkened taken f0 t nothing

module _ (m : Microsurface) (lambda : Color) (b : Bounce) (wi : Vec3) (reflection : Bool) (dark : shadowing_on m lambda b wi ≡ f0) where
  dark_from : (wavelength ks tf : Float) → Weight ks → Weight tf → Dark (weight_from (scattered wi reflection) m lambda b wavelength ks tf)
  unfolding weight_from
  dark_from wavelength ks tf x y =
      rw (dark) (dark_weight wavelength (filter m.kind reflection (fresnel_at m lambda b wavelength) ks tf) (taken-weight m lambda b wavelength reflection ks tf x y))

  dark_power : (power : Color) → Weights4 power → Weights4 b.ks → Weights4 b.tf
      → (let left = weighed power (weights_from (scattered wi reflection) m lambda b) in Dark left.s0 × Dark left.s1 × Dark left.s2 × Dark left.s3)
  unfolding weighed weights_from
  dark_power power p ks tf = (
    darkened power.s0 _ p.w0 (dark_from lambda.s0 b.ks.s0 b.tf.s0 ks.w0 tf.w0),
    darkened power.s1 _ p.w1 (dark_from lambda.s1 b.ks.s1 b.tf.s1 ks.w1 tf.w1),
    darkened power.s2 _ p.w2 (dark_from lambda.s2 b.ks.s2 b.tf.s2 ks.w2 tf.w2),
    darkened power.s3 _ p.w3 (dark_from lambda.s3 b.ks.s3 b.tf.s3 ks.w3 tf.w3),
  )

-- ---- the bounce
powers : (a : Color) → ColorF64 a → T (all4 is_power a) → Weights4 a
unfolding is_power is_filter
powers a f t = filters a f t

leaves_none : (p : Path) (s : Step) (wi : Vec3) (reflection : Bool) → ColorF64 p.power → StepF64 s
    → check_bounce p s.surface s.bounce ≡ accepted
    → scatter s.surface (lambda_on s.surface p.lambda) s.bounce ≡ scattered wi reflection
    → one_direction s.surface.kind s.surface (lambda_on s.surface p.lambda) ≡ false → along_wall wi ≡ true
    → LeavesNone p s.surface s.bounce wi reflection
unfolding bounce answered on_surface worked advanced weights
leaves_none p s wi reflection fits f ok sent one along =
    let m = s.surface in
    let b = s.bounce in
    let lambda = lambda_on m p.lambda in
    let passed = accepted_of p m b ok in
    let dark = (q_is m lambda b wi).wall one along in
    let d = dark_power m lambda b wi reflection dark p.power (powers p.power fits passed.power) (filters b.ks f.ks passed.ks) (filters b.tf f.tf passed.tf) in
    record {
      power = weighed p.power (weights_from (scattered wi reflection) m lambda b);
      none = (dark_zero _ d.0, dark_zero _ d.1, dark_zero _ d.2, dark_zero _ d.3);
      reported = rw (ok, sent);
    }

pub along_the_wall : AlongTheWall
along_the_wall = record { q = q_is; bounced = leaves_none; samples = wall_samples }
