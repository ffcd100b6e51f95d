-- `optics::check::raised` meets its contract: 1e-5 is the least roughness.
use lib.Ieee.{of_bits}
use Rattle.floats.specs.Float.{decimal}
use Rattle.optics.specs.Surface.{roughness_min}
use Rattle.optics.proofs.check.raised.Goals as goal

pub returns : goal.returns
unfolding roughness_min decimal of_bits
returns c = c.max.ensures
