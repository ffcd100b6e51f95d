-- `writing::put_one` leaves the buffer as its contract says: the pair's two words are one put (`pair_put`), and the part that was lent is
-- another (`lent`). By hand, so that another number in the pair shows two sides.
use Rattle.std.proofs.Common.{◌≡◌, ◌+◌, length, arith, ap, sym, ◌∙◌}
use Rattle.book.specs.Bytes.{word, put}
use Rattle.book.specs.Surfaces.{part_bytes}
use Rattle.book.specs.Record.{surface_of}
use Rattle.book.proofs.bytes.Sets.{lent}
use Rattle.book.proofs.writing.Finish.{pair_put}
use Rattle.book.proofs.writing.put_one.Goals as goal

pub returns-clause-buffer : goal.returns-clause-buffer
returns-clause-buffer c =
    let part = part_bytes (surface_of c.args.surface.now) in
    let size : c.part_length-length.result ≡ length part = c.part_length-length.ensures.0 in
    let second : c.put_word-2.new.buf ≡ put c.put_word.new.buf (c.args.pair + 4) (word (length part)) = rw size at c.put_word-2.ensures in
    let pair = pair_put c.args.buf.now _ _ c.args.pair c.args.at (length part) c.put_word.ensures second (omega arith) in
    lent _ _ part c.args.at _ c.put_part.ensures (sym size) (omega (arith, c.put_word.auto.buf, c.put_word-2.auto.buf)) ∙ ap (λ b. put b c.args.at part) pair
