-- `optics::microfacet::Ggx::is_delta` meets its contract: its operations are the definition's, one by one.
use Rattle.std.proofs.Common.{refl}
use Rattle.floats.specs.Float.{decimal}
use Rattle.optics.specs.Facets.{is_delta}
use lib.Ieee.{of_bits}
use Rattle.optics.proofs.microfacet.Ggx.is_delta.Goals as goal

pub returns : goal.returns
unfolding is_delta decimal of_bits
returns c = refl
