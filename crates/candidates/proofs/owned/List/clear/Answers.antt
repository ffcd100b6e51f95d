-- `candidates::owned::List::clear` meets its contract: the places stay, and the count is 0.
use Rattle.std.proofs.Common.{refl, rules}
use Rattle.candidates.proofs.owned.List.clear.Goals as goal

pub returns : goal.returns
returns c = record { sized = search rules; count = refl }
