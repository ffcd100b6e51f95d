-- `clear` begins anew: none of the bytes are text.
use Rattle.std.proofs.Common.{refl}
use Rattle.text.proofs.output.Output.clear.Goals as goal

pub returns-clause-written : goal.returns-clause-written
returns-clause-written c = refl
