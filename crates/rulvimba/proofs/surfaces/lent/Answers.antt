-- `rulvimba::surfaces::lent` meets its contract: the surface of the record, with each spectrum in its place.
use Rattle.std.proofs.Common.{refl}
use Rattle.rulvimba.proofs.surfaces.lent.Goals as goal

pub returns : goal.returns
returns c = rw (c.new.ensures, ← c.from.ensures) refl
