-- `numbers::spherical_utils::azimuth` meets its contract: by the test, and what the call gives.
use Rattle.std.specs.Float.Ieee.{of_bits, neg}
use Rattle.numbers.specs.SphericalUtils.{azimuth}
use Rattle.numbers.proofs.spherical_utils.azimuth.Goals as goal

pub returns-then-sin : goal.returns-then-sin
unfolding azimuth of_bits neg
returns-then-sin c = rw c.if-sin.true

pub returns : goal.returns
unfolding azimuth of_bits neg
returns c = rw (c.if-sin.false, c.clamp.ensures)
