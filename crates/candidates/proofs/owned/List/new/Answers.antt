-- `candidates::owned::List::new` meets its contract: all places, and a count of 0.
use Rattle.std.proofs.Common.{refl, rules}
use Rattle.candidates.proofs.owned.List.new.Goals as goal

pub returns : goal.returns
returns c = record { sized = search rules; count = refl }
