-- `Words::keep` meets its contract: what was made stands in the place of the index (`held_made`).
use Rattle.jobs.proofs.Making.{held_made}
use Rattle.jobs.proofs.surface.Words.keep.Goals as goal

pub returns : goal.returns
returns c = held_made 64 c.args.i _ _ c.args.surfaces.now.held _ _ c.make_in.ensures
