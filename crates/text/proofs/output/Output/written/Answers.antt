-- `written` meets its contract: the text is the bytes that are used.
use Rattle.std.proofs.Common.{ap}
use Rattle.text.specs.Output.{Text}
use Rattle.text.proofs.output.Output.written.Goals as goal

pub returns : goal.returns
returns c = ap (λ (t : Text). t.written) c.self.view_is
