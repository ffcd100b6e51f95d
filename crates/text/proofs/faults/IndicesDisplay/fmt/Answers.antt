-- The text of `Indices` is what std's `write!` writes, with the last index.
use Rattle.text.proofs.faults.IndicesDisplay.fmt.Goals as goal

pub returns-clause-writes : goal.returns-clause-writes
returns-clause-writes g c = rw (← c.saturating_sub-last.ensures) c.write.ensures.writes
