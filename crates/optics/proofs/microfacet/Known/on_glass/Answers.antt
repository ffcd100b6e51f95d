-- `optics::microfacet::Known::on_glass` meets its contract: the calls give what their contracts promise.
use Rattle.std.proofs.Common.{refl}
use Rattle.optics.specs.Surface.{constant_eta}
use Rattle.optics.specs.Known.{reading_on_glass, known_on_glass}
use Rattle.optics.proofs.microfacet.Known.on_glass.Goals as goal

pub returns : goal.returns
unfolding known_on_glass reading_on_glass constant_eta
returns c = rw (c.on_glass-reading.ensures, ← c.spectra.view_is, ← c.is_constant.ensures) refl
