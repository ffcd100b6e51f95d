-- `optics::bxdf::dielectric::reflects` meets its contract: the definition, operation by operation.
use Rattle.std.proofs.Common.{refl}
use lib.Ieee.{of_bits}
use Rattle.optics.specs.Bxdf.{reflects, rest}
use Rattle.optics.proofs.bxdf.dielectric.reflects.Goals as goal

pub returns : goal.returns
unfolding reflects rest of_bits
returns c = refl
