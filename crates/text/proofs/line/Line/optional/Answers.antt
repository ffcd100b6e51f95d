-- `optional` meets its contract: where the next word is another, the line is left as it was.
use Rattle.std.proofs.Common.{◌≡◌, List, ℕ, false}
use Rattle.text.specs.Line.{Left, left, is_next, past_optional}
use Rattle.text.proofs.line.Line.optional.Goals as goal

before : (name : List ℕ) (l : Left) → false ≡ is_next name l → l ≡ past_optional name l
before name l is = rw (← is)

pub returns-else-is_next-clause-rest : goal.returns-else-is_next-clause-rest
returns-else-is_next-clause-rest c = before c.args.name.now (left c.args.self.now) (rw c.next_word.ensures.value at c.if-is_next.ensures)
