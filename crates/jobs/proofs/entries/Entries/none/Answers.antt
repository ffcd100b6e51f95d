-- `Entries::none` meets its contract: none of its values counts.
use Rattle.std.proofs.Common.{refl}
use Rattle.jobs.specs.Surface.{entries_of}
use Rattle.jobs.proofs.entries.Entries.none.Goals as goal

pub returns : goal.returns
unfolding entries_of
returns c = refl
