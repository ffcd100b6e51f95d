-- `bytes::put_doubles` meets its contract: a double more, and what is left is put behind it (`one_more`).
use Rattle.std.proofs.Common.{arith, sym, ◌∙◌}
use Rattle.std.proofs.lemmas.List.{drop_all}
use Rattle.book.specs.Bytes.{doubles}
use Rattle.book.proofs.Doubles.{length-doubles}
use Rattle.book.proofs.bytes.Sets.{one_more, put_is}
use Rattle.book.proofs.bytes.put_doubles.Goals as goal

pub loop-i-preserved : goal.loop-i-preserved
loop-i-preserved c =
    let l = c.loop-i in
    one_more l.buf c.put_double.new.buf c.args.at l.i c.args.xs.now _ c.put_double.ensures c.loop-i-test.true (omega arith) ∙ l.invariant

pub returns : goal.returns
unfolding doubles
returns c =
    let d = c.args.buf.now in
    let xs = c.args.xs.now in
    let end = drop_all c.loop-i.i xs c.loop-i-test.false in
    rw end at c.loop-i.invariant ∙ sym (put_is d c.args.at (doubles xs) (omega (arith, length-doubles xs)))
