-- `numbers::vec3::Vec3::is_normalized` meets its contract: the calls give what their contracts promise, and the definition is read in the same order.
use Rattle.std.specs.Float.Ieee.{of_bits}
use Rattle.floats.specs.Float.{epsilon, decimal}
use Rattle.numbers.specs.Vec3.{is_normalized}
use Rattle.numbers.proofs.vec3.Vec3.is_normalized.Goals as goal

pub returns : goal.returns
unfolding is_normalized epsilon decimal of_bits
returns c = rw (← c.length_squared.ensures, ← c.abs.ensures)
