-- `optics::check::all_indices` meets its contract: its limits are the definition's.
use lib.Ieee.{of_bits}
use Rattle.floats.specs.Float.{decimal}
use Rattle.optics.specs.Surface.{eta_min}
use Rattle.optics.proofs.check.all_indices.Goals as goal

pub returns : goal.returns
unfolding eta_min of_bits decimal
returns c = c.all_within.ensures
