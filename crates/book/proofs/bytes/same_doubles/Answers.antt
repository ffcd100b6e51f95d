-- `book::bytes::same_doubles` meets its contract: a pair more is equal (`same_more`), or it isn't, and decides (`differs`).
use Rattle.std.proofs.Common.{refl, drop, drop-drop}
use Rattle.book.specs.Bytes.{doubles_in}
use Rattle.book.specs.Surfaces.{same_values}
use Rattle.book.proofs.bytes.Same.{same_more, differs}
use Rattle.book.proofs.bytes.same_doubles.Goals as goal

pub loop-i-init : goal.loop-i-init
unfolding same_values doubles_in
loop-i-init c = refl

pub returns-then-double_at : goal.returns-then-double_at
returns-then-double_at c =
    let l = c.loop-i in
    let pair = rw (c.double_at.ensures, c.double_at-in-loop-i.ensures) at c.if-double_at.true in
    differs l.i c.args.n (drop c.args.from c.args.a.now) (drop c.args.from c.args.b.now) c.loop-i-test.true (simp drop-drop pair)

pub loop-i-preserved : goal.loop-i-preserved
loop-i-preserved c =
    let l = c.loop-i in
    let pair = rw (c.double_at.ensures, c.double_at-in-loop-i.ensures) at c.if-double_at.false in
    same_more l.i (drop c.args.from c.args.a.now) (drop c.args.from c.args.b.now) l.invariant (simp drop-drop pair)
