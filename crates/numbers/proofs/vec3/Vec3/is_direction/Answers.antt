-- `numbers::vec3::Vec3::is_direction` meets its contract: the calls give what their contracts promise, and the definition is read in the same order.
use Rattle.std.specs.Float.Ieee.{of_bits}
use Rattle.floats.specs.Float.{decimal}
use Rattle.numbers.specs.Vec3.{is_direction}
use Rattle.numbers.proofs.vec3.Vec3.is_direction.Goals as goal

pub returns : goal.returns
unfolding is_direction decimal of_bits
returns c = rw (← c.length_squared.ensures, ← c.within.ensures)
