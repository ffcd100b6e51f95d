-- `optics::microfacet::on_hemisphere` meets its contract: the calls give what their contracts promise, and the definition is read in the same order.
use Rattle.optics.specs.Sampler.{on_hemisphere, disk_x, disk_h, disk_y, disk_z, lerp}
use lib.Ieee.{of_bits}
use Rattle.optics.proofs.microfacet.on_hemisphere.Goals as goal

pub returns : goal.returns
unfolding on_hemisphere disk_x disk_h disk_y disk_z lerp of_bits
returns c = rw (← c.sqrt_or_zero-h.ensures, ← c.sqrt_or_zero.ensures)
