-- `candidates::owned::List::densities` meets its contract: as many places are in use as the count says, or all that there are (`take_min`).
use lib.Ieee.{Float}
use Rattle.std.proofs.lemmas.List.{take_min}
use Rattle.candidates.proofs.owned.List.densities.Goals as goal

pub returns : goal.returns
returns c = rw (← c.self.view_is, c.in_use.ensures) (rw c.self.told.1 at (take_min {X = Float} c.self.inside.count c.self.inside.densities))
