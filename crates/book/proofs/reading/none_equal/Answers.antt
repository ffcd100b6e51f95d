-- `book::reading::none_equal` meets its contract: the next part comes again, or those behind it decide (`rest_more`, `rest_all`).
use Rattle.std.proofs.Common.{arith}
use Rattle.book.specs.Layout.{none_equal}
use Rattle.book.proofs.reading.Rest.{rest_none, rest_more, rest_all}
use Rattle.book.proofs.reading.none_equal.Goals as goal

pub loop-i-init : goal.loop-i-init
loop-i-init c = rw (rest_none c.args.b.now)

pub returns-then-comes_again : goal.returns-then-comes_again
unfolding none_equal
returns-then-comes_again c =
    let b = c.args.b.now in
    rw (← c.loop-i.invariant, rest_more b c.loop-i.i (omega arith), ← c.comes_again.ensures, c.if-comes_again.true)

pub loop-i-preserved : goal.loop-i-preserved
unfolding none_equal
loop-i-preserved c =
    let b = c.args.b.now in
    rw (← c.loop-i.invariant, rest_more b c.loop-i.i (omega arith), ← c.comes_again.ensures, c.if-comes_again.false)

pub returns : goal.returns
unfolding none_equal
returns c = rw (← c.loop-i.invariant, rest_all c.args.b.now c.loop-i.i (omega arith))
