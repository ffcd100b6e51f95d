-- `text::line::Line::flag` reads a decimal below 2, and is true where it is 1.
use Rattle.std.proofs.Common.{refl}
use Rattle.text.specs.Line.{flag}
use Rattle.text.proofs.line.Line.flag.Goals as goal

pub returns-clause-value : goal.returns-clause-value
unfolding flag
returns-clause-value c = rw (← c.decimal.ensures.value, c.in_ok-decimal.was) refl
