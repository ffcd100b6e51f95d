-- `path::bsdf::density_of` meets its contract: by the test.
use Rattle.std.proofs.Common.{◌≡◌, Some, None, Bool, true, false, cond, refl}
use Rattle.std.specs.Bool.{then_some}
use lib.Ieee.{Float}
use Rattle.path.specs.Answer.{density_of}
use Rattle.path.proofs.bsdf.density_of.Goals as goal

by_test : (finite : Bool) (x : Float) → then_some finite x ≡ cond finite (Some x) None
by_test true x = refl
by_test false x = refl

pub returns : goal.returns
unfolding density_of
returns c = rw (c.then_some.ensures, c.is_finite.ensures) (by_test _ _)
