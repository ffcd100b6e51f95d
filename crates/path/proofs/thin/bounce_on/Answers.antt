-- `path::thin::bounce_on` meets its contract: the answer is that of the bounce by value, and the path that it carries is stored.
use Rattle.std.proofs.Common.{sym}
use Rattle.path.proofs.Outcome.{path_carried}
use Rattle.path.proofs.thin.bounce_on.Goals as goal

pub returns : goal.returns
returns c = (c.bounce-answer.ensures, sym (path_carried c.bounce-answer.result))
