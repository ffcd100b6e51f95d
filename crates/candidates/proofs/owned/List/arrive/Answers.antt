-- `candidates::owned::List::arrive` meets its contract: what the call answers and leaves is what the definition says. No call is named, so that another one shows two sides.
use Rattle.candidates.proofs.owned.List.arrive.Goals as goal

pub returns : goal.returns
returns c = rw (← c.self.view_is) assumption
