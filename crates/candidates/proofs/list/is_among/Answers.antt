-- `candidates::list::is_among` meets its contract: what was found among the ids so far decides together with the rest.
use Rattle.std.proofs.Common.{sym, arith}
use Rattle.candidates.proofs.Ids.{rest-start, rest-next, rest_ends}
use Rattle.candidates.proofs.list.is_among.Goals as goal

pub loop-x-init : goal.loop-x-init
loop-x-init c = rest-start _ _

pub loop-x-preserved : goal.loop-x-preserved
loop-x-preserved c = let l = c.loop-x in rest-next _ _ l.x-index l.among 0 l.invariant (omega arith)

pub returns : goal.returns
returns c = let l = c.loop-x in sym (rest_ends _ _ l.x-index l.among l.invariant (omega arith))
