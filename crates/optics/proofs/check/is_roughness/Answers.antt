-- `optics::check::is_roughness` meets its contract: the calls give what their contracts promise, and the definition is read in the same order.
use Rattle.floats.specs.Float.{decimal}
use Rattle.optics.specs.Surface.{is_roughness, roughness_min}
use lib.Ieee.{of_bits}
use Rattle.optics.proofs.check.is_roughness.Goals as goal

pub returns : goal.returns
unfolding is_roughness roughness_min decimal of_bits
returns c = rw (← c.within.ensures)
