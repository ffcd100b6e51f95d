-- A spectrum read from a wavelength's grid point gives what its lookup gives (`sample_from_point`): by the tests of the two, which are the same.
use Rattle.std.proofs.Common.{◌≡◌, Bool, true, false, cond, List, refl}
use Rattle.std.specs.Prelude.{Float}
use Rattle.numbers.specs.DenseSpectrum.{sample_one_at}
use Rattle.numbers.specs.GridPoint.{GridPoint, grid_point, sample_from}

-- a read from the point that a test chooses is the chosen read
of_choice : (values : List Float) (b : Bool) (p q : GridPoint) → sample_from values (cond b p q) ≡ cond b (sample_from values p) (sample_from values q)
of_choice values true p q = refl
of_choice values false p q = refl

pub sample_from_point : (step : Float) (values : List Float) (lambda : Float) → sample_from values (grid_point step lambda) ≡ sample_one_at step values lambda
unfolding sample_from grid_point sample_one_at
sample_from_point step values lambda = rw (of_choice, of_choice)
