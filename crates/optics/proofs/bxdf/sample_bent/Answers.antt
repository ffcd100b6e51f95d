-- `optics::bxdf::sample_bent` meets its contract: where the bend gives a direction, it is the sample's, and no reflection.
use Rattle.std.proofs.Common.{refl}
use Rattle.optics.specs.Bxdf.{branch, refracted, sampled}
use Rattle.optics.proofs.bxdf.sample_bent.Goals as goal

pub returns : goal.returns
unfolding branch refracted sampled
returns c = rw (← c.refract_from.ensures, c.in_ok-wi.was) refl
