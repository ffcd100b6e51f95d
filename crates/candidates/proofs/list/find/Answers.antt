-- `candidates::list::find` meets its contract: what `position` gives over the ids.
use Rattle.std.proofs.Common.{rules, tests}
use Rattle.std.proofs.lemmas.Iterator.{YieldsList-from_slice}
use Rattle.std.proofs.lemmas.Iterator.Search.{position_from_yields_List}
use Rattle.candidates.specs.Candidate.{is_id}
use Rattle.candidates.proofs.list.find.Goals as goal

pub returns : goal.returns
returns c =
    position_from_yields_List (is_id c.args.id) _ _ _ c.position.ensures.ran (YieldsList-from_slice c.args.ids.now cc)
    (λ x b q k. search (rules, tests))
