-- `candidates::owned::List::ids` meets its contract: as many places are in use as the count says, or all that there are (`take_min`).
use Rattle.std.proofs.Common.{ℕ}
use Rattle.std.proofs.lemmas.List.{take_min}
use Rattle.candidates.specs.Memory.{listed_ids}
use Rattle.candidates.proofs.owned.List.ids.Goals as goal

pub returns : goal.returns
unfolding listed_ids
returns c = rw (← c.self.view_is, c.in_use.ensures) (rw c.self.told.0 at (take_min {X = ℕ} c.self.inside.count c.self.inside.ids))
