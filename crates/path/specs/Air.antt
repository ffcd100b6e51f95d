-- Air outside glass, in a bounce: beside an outer spectrum of ones, and beside metal any, a bounce answers, and the reckoning counts, what it does in air, where 01 has
-- no such spectrum; and so do many bounces in one call.
-- So demand 3's product of weights is 01's too. Definitions only; `InAir` is proved in proofs/Air.antt.
use Rattle.std.specs.Prelude.{ℕ, Float}
use mathlib.Core.{Path.◌≡◌, List.List}
use Rattle.optics.specs.declared.microfacet.Surface.{Surface}
use Rattle.optics.specs.Surface.{Microsurface, microsurface}
use Rattle.optics.specs.Air.{AirBeside, in_air}
use Rattle.path.specs.Path.{Path}
use Rattle.path.specs.Bounce.{Bounce}
use Rattle.path.specs.Answer.{bounce}
use Rattle.path.specs.Reckoning.{reckon}
use Rattle.path.specs.Many.{all_bounced}

pub record SameBounces (m : Microsurface) : Type 0 where
  pub answer : (p : Path) (b : Bounce) → bounce p m b ≡ bounce p (in_air m) b
  pub reckoned : (p : Path) (b : Bounce) → reckon p m b ≡ reckon p (in_air m) b
  pub many : (input : List Float) (n : ℕ) → all_bounced m input n ≡ all_bounced (in_air m) input n

unfoldable pub InAir : Type 0
InAir = (s : Surface) (eta k outer : List Float) → AirBeside s.kind eta outer → SameBounces (microsurface s eta k outer)
