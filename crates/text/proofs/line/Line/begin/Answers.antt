-- `begin` meets its contract: the word is counted, and what is left begins with it.
use Rattle.std.proofs.Common.{refl}
use Rattle.text.proofs.line.Line.begin.Goals as goal

pub returns : goal.returns
returns c = rw (c.from_word-self.ensures, c.saturating_add-self.ensures) refl
