-- `whole` meets its contract: the text stands behind what was written (`copied`).
use Rattle.text.proofs.output.Put.{copied}
use Rattle.text.proofs.output.Output.whole.Goals as goal

pub returns : goal.returns
returns c =
    rw (← c.self.view_is)
    (copied c.self.inside.bytes.now c.args.text.now c.copy_from_slice.new.self c.self.inside.used c.self.inside.inside (rw (← c.self.view_is) at c.requires) c.copy_from_slice.ensures.after)
