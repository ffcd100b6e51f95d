-- `rulvimba::paths::load` meets its contract: the eight numbers in their places.
use mathlib.Core.Path.{refl}
use Rattle.rulvimba.specs.Paths.{path_in}
use Rattle.rulvimba.proofs.paths.load.Goals as goal

pub returns : goal.returns
unfolding path_in
returns c = refl
