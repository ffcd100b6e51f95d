-- `optics::bxdf::reflect` meets its contract: the calls give what their contracts promise, and the definition is read in the same order.
use Rattle.std.proofs.Common.{refl}
use Rattle.optics.specs.Bxdf.{reflect, mirrored, reflected}
use lib.Ieee.{of_bits}
use Rattle.optics.proofs.bxdf.reflect.Goals as goal

pub returns-then-same_hemisphere : goal.returns-then-same_hemisphere
unfolding reflect mirrored reflected of_bits
returns-then-same_hemisphere c = rw (← c.project_onto.ensures, ← c.mul.ensures, ← c.sub-wi.ensures, ← c.same_hemisphere.ensures, c.if-same_hemisphere.true) refl

pub returns : goal.returns
unfolding reflect mirrored reflected of_bits
returns c = rw (← c.project_onto.ensures, ← c.mul.ensures, ← c.sub-wi.ensures, ← c.same_hemisphere.ensures, c.if-same_hemisphere.false)
