-- `book::bytes::double_at` meets its contract: its eight bytes are those of the part from its place on (`read_from`).
use Rattle.std.proofs.Common.{arith, add-zero}
use Rattle.std.specs.Int.{w64}
use Rattle.book.specs.Bytes.{double_in}
use Rattle.book.proofs.bytes.Places.{read_from}
use Rattle.book.proofs.bytes.double_at.Goals as goal

pub returns : goal.returns
unfolding double_in
returns c = rw (read_from w64 c.args.b.now c.args.at 8 (omega arith), add-zero, ← c.from_le_bytes.ensures) c.of_bits.ensures
