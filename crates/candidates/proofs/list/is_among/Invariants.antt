-- `candidates::list::is_among` meets its contract: what was found among the ids so far decides together with the rest.
use Rattle.std.proofs.Common.{◌≡◌}
use Rattle.candidates.proofs.Ids.{Rest}
use Rattle.candidates.proofs.list.is_among.Given as goal

abbrev pub invariant-loop-x : goal.invariant-loop-x
invariant-loop-x l = Rest l.id l.ids l.x-index l.among
