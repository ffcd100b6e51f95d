-- `book::reading::comes_again` meets its contract: the next part is equal, or those behind it decide (`rest_more`, `rest_all`).
use Rattle.std.proofs.Common.{◌≡◌, true, false, arith}
use Rattle.book.specs.Layout.{part_at}
use Rattle.book.specs.Surfaces.{equal_for_reading}
use Rattle.book.proofs.reading.Rest.{rest_more, rest_all}
use Rattle.book.proofs.reading.comes_again.Goals as goal

pub returns-then-equal_for_reading : goal.returns-then-equal_for_reading
returns-then-equal_for_reading c =
    let b = c.args.b.now in
    let j = c.loop-j.j in
    let equal : equal_for_reading (part_at b j) (part_at b c.args.i) ≡ true =
    rw (← c.part_at.ensures.0, ← c.part_at-part.ensures.0, ← c.equal_for_reading.ensures) c.if-equal_for_reading.true in
    rw (← c.loop-j.invariant, rest_more b j (omega arith), equal)

pub loop-j-preserved : goal.loop-j-preserved
loop-j-preserved c =
    let b = c.args.b.now in
    let j = c.loop-j.j in
    let other : equal_for_reading (part_at b j) (part_at b c.args.i) ≡ false =
    rw (← c.part_at.ensures.0, ← c.part_at-part.ensures.0, ← c.equal_for_reading.ensures) c.if-equal_for_reading.false in
    rw (← c.loop-j.invariant, rest_more b j (omega arith), other)

pub returns : goal.returns
returns c = rw (← c.loop-j.invariant, rest_all c.args.b.now c.loop-j.j (omega arith))
