-- `optics::bxdf::at_z` meets its contract: by the tests, in the order of the definition.
use Rattle.floats.specs.Float.{epsilon, decimal}
use Rattle.numbers.specs.SphericalUtils.{cos_theta}
use Rattle.optics.specs.Density.{at_z}
use lib.Ieee.{of_bits}
use Rattle.optics.proofs.bxdf.at_z.Goals as goal

pub returns-then-wh : goal.returns-then-wh
unfolding at_z cos_theta epsilon decimal of_bits
returns-then-wh c = rw c.if-wh.true

pub returns : goal.returns
unfolding at_z cos_theta epsilon decimal of_bits
returns c = rw c.if-wh.false
