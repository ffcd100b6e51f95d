-- `optics::check::is_circle_pair` meets its contract: by the test, in the order of the definition.
use lib.Ieee.{of_bits, neg}
use Rattle.floats.specs.Float.{decimal}
use Rattle.optics.specs.Check.{is_circle_pair}
use Rattle.optics.proofs.check.is_circle_pair.Goals as goal

pub returns : goal.returns
unfolding is_circle_pair decimal of_bits neg
returns c = rw (← c.within.ensures, ← c.within-2.ensures, ← c.within-3.ensures)
