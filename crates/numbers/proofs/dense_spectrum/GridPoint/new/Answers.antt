-- `numbers::dense_spectrum::GridPoint::new` meets its contract: by the two tests, from the grid point that is found first.
use Rattle.std.proofs.Common.{refl}
use Rattle.std.specs.Float.Ieee.{of_bits}
use Rattle.numbers.specs.DenseSpectrum.{upper_point, upper_lambda, upper_weight}
use Rattle.numbers.specs.GridPoint.{grid_point}
use Rattle.numbers.proofs.dense_spectrum.GridPoint.new.Goals as goal

pub returns-then-lambda : goal.returns-then-lambda
unfolding grid_point of_bits
returns-then-lambda c = rw c.if-lambda.true refl

pub returns-then-lambda-l1 : goal.returns-then-lambda-l1
unfolding grid_point upper_point upper_lambda upper_weight of_bits
returns-then-lambda-l1 c = let b1 = c.ceiling-b1.ensures in rw (c.if-lambda.false, ← b1.1, ← b1.0, c.if-lambda-l1.true)

pub returns : goal.returns
unfolding grid_point upper_point upper_lambda upper_weight of_bits
returns c = let b1 = c.ceiling-b1.ensures in rw (c.if-lambda.false, ← b1.1, ← b1.0, c.if-lambda-l1.false)
