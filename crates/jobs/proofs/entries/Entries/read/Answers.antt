-- `Entries::read` meets its contract: the entries are what no entries become.
use Rattle.jobs.proofs.entries.Entries.read.Goals as goal

pub returns-clause-value : goal.returns-clause-value
returns-clause-value c = c.in_ok-read_in.ensures.value
