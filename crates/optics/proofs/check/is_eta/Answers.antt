-- `optics::check::is_eta` meets its contract: the calls give what their contracts promise, and the definition is read in the same order.
use Rattle.floats.specs.Float.{decimal}
use Rattle.optics.specs.Surface.{is_eta, eta_min}
use lib.Ieee.{of_bits}
use Rattle.optics.proofs.check.is_eta.Goals as goal

pub returns : goal.returns
unfolding is_eta eta_min decimal of_bits
returns c = rw (← c.within.ensures)
