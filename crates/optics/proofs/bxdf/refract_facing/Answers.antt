-- `optics::bxdf::refract_facing` meets its contract: the calls give what their contracts promise, and the definition is read in the same order.
use Rattle.std.proofs.Common.{refl}
use Rattle.optics.specs.Bxdf.{bent, across_only, refracted}
use Rattle.optics.specs.Fresnel.{is_total}
use Rattle.optics.specs.SharedTerms.{refract_facing_from}
use lib.Ieee.{of_bits}
use Rattle.optics.proofs.bxdf.refract_facing.Goals as goal

pub returns-then-snell : goal.returns-then-snell
unfolding refract_facing_from is_total bent across_only refracted of_bits
returns-then-snell c = rw c.if-snell.true

pub returns-then-same_hemisphere : goal.returns-then-same_hemisphere
unfolding refract_facing_from is_total bent across_only refracted of_bits
returns-then-same_hemisphere c = rw (c.if-snell.false, ← c.neg.ensures, ← c.div.ensures, ← c.mul.ensures, ← c.add-wi.ensures, ← c.same_hemisphere.ensures, c.if-same_hemisphere.true)

pub returns : goal.returns
unfolding refract_facing_from is_total bent across_only refracted of_bits
returns c = rw (c.if-snell.false, ← c.neg.ensures, ← c.div.ensures, ← c.mul.ensures, ← c.add-wi.ensures, ← c.same_hemisphere.ensures, c.if-same_hemisphere.false) refl
