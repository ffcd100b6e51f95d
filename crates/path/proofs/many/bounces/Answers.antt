-- `path::many::bounces` meets its contract: `run` did as many bounces as `count` gave, on the surface.
use Rattle.path.proofs.many.bounces.Goals as goal

pub returns : goal.returns
returns c = (c.count-n.ensures.0, rw c.new.ensures at c.run.ensures)
