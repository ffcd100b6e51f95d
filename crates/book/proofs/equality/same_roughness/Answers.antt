-- `equality::same_roughness` meets its contract: by hand, so that what is compared shows beside the two that were raised.
use Rattle.std.proofs.Common.{rules}
use Rattle.book.proofs.equality.same_roughness.Goals as goal

pub returns : goal.returns
returns c = rw (← c.given.ensures, ← c.given-2.ensures) (search rules)
