-- `sqrt` meets its contract: the processor's root is the root, by `by_processor`; every other value is the digits'.
use Rattle.std.proofs.Common.{◌∙◌}
use denote.Floats.{passes}
use Rattle.floats.proofs.square_root.Processor.{by_processor}
use Rattle.floats.proofs.square_root.sqrt.Goals as goal

pub returns-then-x : goal.returns-then-x
returns-then-x c = c.sqrt.ensures.value ∙ by_processor c.args.x (passes _ c.well_formed.0.1)

pub returns-else-x : goal.returns-else-x
returns-else-x c = c.by_digits.ensures
