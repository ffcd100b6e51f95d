-- `count` meets its contract: a refusal is counted as one.
use Rattle.std.proofs.Common.{refl}
use Rattle.text.proofs.answers.Tally.count.Goals as goal

pub returns-in-Refusal : goal.returns-in-Refusal
returns-in-Refusal c = rw (c.in-Refusal.is, c.saturating_add-self-in-Refusal.ensures) refl
