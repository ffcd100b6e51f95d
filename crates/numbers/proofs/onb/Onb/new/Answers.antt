-- `numbers::onb::Onb::new` meets its contract: the calls give what their contracts promise, and the definition is read in the same order.
use Rattle.std.specs.Float.Ieee.{of_bits, neg}
use Rattle.numbers.specs.Onb.{basis, slope, skew}
use Rattle.numbers.proofs.onb.Onb.new.Goals as goal

pub returns : goal.returns
unfolding basis slope skew of_bits neg
returns c = rw (← c.signum-sgn.ensures)
