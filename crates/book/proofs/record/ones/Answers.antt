-- `book::record::ones` meets its contract: the front of the places is filled (`filled`).
use lib.Ieee.{of_bits}
use Rattle.floats.specs.Float.{f1}
use Rattle.book.proofs.bytes.Laid.{filled}
use Rattle.book.proofs.record.ones.Goals as goal

pub returns : goal.returns
unfolding of_bits
returns c = filled c.args.n f1 c.fill.new.self c.requires (c.fill.ensures.after (λ y is. is))
