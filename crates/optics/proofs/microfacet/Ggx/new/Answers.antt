-- `optics::microfacet::Ggx::new` meets its contract: the facets have the roughness.
use Rattle.std.proofs.Common.{refl}
use Rattle.optics.proofs.microfacet.Ggx.new.Goals as goal

pub returns : goal.returns
returns c = refl
