-- `book::reading::check_parts` meets its contract: the next part is refused, or those behind it decide (`rest_more`, `rest_all`).
use Rattle.std.proofs.Common.{◌≡◌, Err, arith, rules}
use Rattle.book.specs.Surfaces.{check_all}
use Rattle.book.specs.Book.{surfaces_in}
use Rattle.book.proofs.reading.Rest.{rest_none, rest_more, rest_all}
use Rattle.book.proofs.reading.check_parts.Goals as goal

pub loop-i-init : goal.loop-i-init
unfolding surfaces_in
loop-i-init c = rw (rest_none c.args.b.now)

pub returns-in_err-check_part : goal.returns-in_err-check_part
unfolding check_all
returns-in_err-check_part c =
    let b = c.args.b.now in
    let same : c.from_residual.result ≡ Err c.in_err-check_part.field-0.0 = search rules in
    rw (← c.loop-i.invariant, rest_more b c.loop-i.i (omega arith), ← c.part_at.ensures.0, ← c.in_err-check_part.ensures, same)

pub loop-i-preserved : goal.loop-i-preserved
unfolding check_all
loop-i-preserved c =
    let b = c.args.b.now in
    rw (← c.loop-i.invariant, rest_more b c.loop-i.i (omega arith), ← c.part_at.ensures.0, ← c.in_ok-check_part.ensures)

pub returns : goal.returns
unfolding check_all
returns c = rw (← c.loop-i.invariant, rest_all c.args.b.now c.loop-i.i (omega arith))
