-- Demand 3 of the contract, as one statement over a list of bounces. Definitions only; it is proved in proofs/Demand3.antt.
use mathlib.Core.{Path.◌≡◌, List.List, List.[], List.◌∷◌}
use Rattle.std.specs.Prelude.{T, ◌≢◌, Option, Some, None, Float}
use Rattle.std.specs.Float.Ieee.{le}
use Rattle.floats.specs.Float.{◌⊕◌, ◌⊖◌, f0, f1, is_finite}
use Rattle.numbers.specs.declared.vec3.Vec3.{Vec3}
use Rattle.optics.specs.Surface.{Microsurface}
pub use Rattle.optics.specs.F64.{F64, AllF64, OuterF64}
use Rattle.optics.specs.Bxdf.{totally}
use Rattle.numbers.specs.Refusal.{accepted}
use Rattle.optics.specs.declared.{color.Color.Color, microfacet.Kind.Kind, microfacet.Kind.TheVariants.Metal, microfacet.Kind.TheVariants.Glass}
use Rattle.path.specs.Bounce.{Bounce, check_bounce, lambda_on, scatter}
use Rattle.path.specs.Answer.{Shares, Bounced, Outcome, refusal, lost, reflected, passed, outcome, bounce, path_of}
use Rattle.path.specs.Path.{Path, path, ones}
use Rattle.path.specs.Reckoning.{reckon}

-- ---- the numbers that go in are values of binary64: every f64 is
abbrev pub Vec3F64 : Vec3 → Type 0
Vec3F64 v = F64 v.x × F64 v.y × F64 v.z

abbrev pub ColorF64 : Color → Type 0
ColorF64 a = F64 a.s0 × F64 a.s1 × F64 a.s2 × F64 a.s3

-- one entry of the list: the surface with its spectra, and the bounce's other arguments but the path (a surface in `air`, which no call has, is covered besides: that is 01's own)
pub record Step : Type 0 where
  pub surface : Microsurface
  pub bounce : Bounce

pub record StepF64 (step : Step) : Type 0 where
  pub roughness_x : F64 step.surface.roughness.x
  pub roughness_y : F64 step.surface.roughness.y
  pub eta : AllF64 step.surface.eta
  pub k : AllF64 step.surface.k
  pub outer : OuterF64 step.surface.outside
  pub wo : Vec3F64 step.bounce.wo
  pub normal : Vec3F64 step.bounce.normal
  pub u : F64 step.bounce.u
  pub disk : F64 step.bounce.disk
  pub c : F64 step.bounce.c
  pub s : F64 step.bounce.s
  pub ks : ColorF64 step.bounce.ks
  pub tf : ColorF64 step.bounce.tf

-- ---- what holds after a bounce
-- a number from 0 to what it was
abbrev pub Fell : Float → Float → Type 0
Fell before after = T (le f0 after) × T (le after before)

abbrev pub AllFell : Color → Color → Type 0
AllFell before after = Fell before.s0 after.s0 × Fell before.s1 after.s1 × Fell before.s2 after.s2 × Fell before.s3 after.s3

abbrev pub FromZeroToOne : Float → Type 0
FromZeroToOne x = T (le f0 x) × T (le x f1)

-- on glass there are shares, F and 1 - F, they lie from 0 to 1, and their one rounded sum is exactly 1.0; metal has none
abbrev pub SharesHold : Kind → Option Shares → Type 0
SharesHold Metal (Some shares) = ⊥
SharesHold Metal None = Unit
SharesHold Glass None = ⊥
SharesHold Glass (Some shares) =
    (shares.passed ≡ f1 ⊖ shares.reflected) × FromZeroToOne shares.reflected × FromZeroToOne shares.passed × (shares.reflected ⊕ shares.passed ≡ f1)

-- a density that is handed out is finite and not below 0
abbrev pub DensityHolds : Option Float → Type 0
DensityHolds (Some x) = T (is_finite x) × T (le f0 x)
DensityHolds None = Unit

abbrev pub AnswerHolds : Kind → Outcome → Type 0
AnswerHolds kind (refusal n p) = Unit
AnswerHolds kind (lost shares p) = SharesHold kind shares
AnswerHolds kind (reflected wi density shares p) = SharesHold kind shares × DensityHolds density
AnswerHolds kind (passed wi density shares p) = SharesHold kind shares × DensityHolds density

-- p is the path before the bounce and q the one after it, r the reckoning's state before it, and `a` the answer
pub record Holds (p q r : Path) (s : Step) (a : Bounced) : Type 0 where
  pub powers : AllFell p.power q.power
  pub product : q ≡ reckon r s.surface s.bounce
  pub answer : AnswerHolds s.surface.kind (outcome a)

-- ---- a list of bounces on one path, with the answers of the program
-- Each answer is one that the contract of the bounce gives, and the next bounce is on the path that it carries: by value that is the answer's path, and through the thin form what the caller's path then holds.
pub data Run : Path → Type 0 where
  end : {p : Path} → Run p
  bounced : {p : Path} (s : Step) → StepF64 s → (a : Bounced) → outcome a ≡ bounce p s.surface s.bounce → (q : Path) → q ≡ path_of (outcome a) → Run q → Run p

-- after every bounce of it, r being the reckoning's state
unfoldable pub Throughout : {p : Path} → Path → Run p → Type 0
Throughout r end = Unit
Throughout {p} r (bounced s f a c q e run) = Holds p q r s a × Throughout (reckon r s.surface s.bounce) run

-- for every path that starts with powers 1.0, whatever its wavelengths, and every list of bounces on it
unfoldable pub Demand3 : Type 0
Demand3 = (lambda : Color) → ColorF64 lambda → (run : Run (path lambda ones)) → Throughout (path lambda ones) run

-- ---- that it speaks of every list
-- every bounce has an answer that its contract gives
unfoldable pub Answered : Type 0
Answered = (p : Path) (s : Step) → (a : Bounced) × (outcome a ≡ bounce p s.surface s.bounce)

-- so each list of steps, on any path, is that of a run
unfoldable pub StepsF64 : List Step → Type 0
StepsF64 [] = Unit
StepsF64 (s ∷ steps) = StepF64 s × StepsF64 steps

unfoldable pub steps_of : {p : Path} → Run p → List Step
steps_of end = []
steps_of (bounced s f a c q e run) = s ∷ steps_of run

unfoldable pub RunForEvery : Type 0
RunForEvery = (p : Path) (steps : List Step) → StepsF64 steps → (run : Run p) × (steps_of run ≡ steps)

-- ---- and beside it: in a bounce that isn't refused, a bend never meets total reflection, where the Rust has `unreachable!`
unfoldable pub NeverTotal : Type 0
NeverTotal = (p : Path) (s : Step) → ColorF64 p.lambda → StepF64 s
    → check_bounce p s.surface s.bounce ≡ accepted
    → scatter s.surface (lambda_on s.surface p.lambda) s.bounce ≢ totally
