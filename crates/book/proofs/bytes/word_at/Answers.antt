-- `book::bytes::word_at` meets its contract: its four bytes are those of the part from its place on (`read_from`).
use Rattle.std.proofs.Common.{arith, add-zero}
use Rattle.std.specs.Int.{w32}
use Rattle.book.specs.Bytes.{word_at}
use Rattle.book.proofs.bytes.Places.{read_from}
use Rattle.book.proofs.bytes.word_at.Goals as goal

pub returns : goal.returns
unfolding word_at
returns c = (rw (read_from w32 c.args.b.now c.args.at 4 (omega arith), add-zero) c.from_le_bytes.ensures, omega arith)
