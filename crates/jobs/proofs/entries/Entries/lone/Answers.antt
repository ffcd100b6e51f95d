-- `Entries::lone` meets its contract: it is what no entries become.
use Rattle.jobs.proofs.entries.Entries.lone.Goals as goal

pub returns : goal.returns
returns c = c.set_lone.ensures
