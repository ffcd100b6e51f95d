-- `optics::microfacet::Spectra::new` meets its contract: each slice in its place.
use Rattle.std.proofs.Common.{refl}
use Rattle.optics.proofs.microfacet.Spectra.new.Goals as goal

pub returns : goal.returns
returns c = rw (c.new.ensures, c.new-2.ensures, c.new-3.ensures) refl
