-- `Record::made` meets its contract: what stands in the place was made in it.
use Rattle.std.proofs.Common.{sym}
use Rattle.book.proofs.record.Record.made.Goals as goal

pub returns : goal.returns
returns c = sym (rw c.unwrap.ensures at c.in_ok-make_in.ensures)
