-- `text::line::Line::index` reads a decimal of as many digits as an index has, below how many there are.
use Rattle.text.proofs.line.Line.index.Goals as goal

pub returns-clause-value : goal.returns-clause-value
returns-clause-value c = c.decimal.ensures.value
