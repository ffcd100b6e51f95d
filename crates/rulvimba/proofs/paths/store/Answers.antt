-- `rulvimba::paths::store` meets its contract: the eight numbers in their places.
use mathlib.Core.Path.{refl}
use Rattle.rulvimba.specs.Paths.{numbers_of}
use Rattle.rulvimba.proofs.paths.store.Goals as goal

pub returns : goal.returns
unfolding numbers_of
returns c = refl
