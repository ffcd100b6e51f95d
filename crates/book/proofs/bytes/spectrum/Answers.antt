-- `book::bytes::spectrum` meets its contract: a double more fills one place more (`doubles_more`, `laid_more`).
use Rattle.std.proofs.Common.{◌≡◌, arith, refl, drop, drop-drop}
use lib.Ieee.{of_bits}
use Rattle.book.specs.Bytes.{doubles_in}
use Rattle.book.specs.Record.{laid}
use Rattle.book.proofs.Doubles.{length-doubles_in}
use Rattle.book.proofs.bytes.Laid.{doubles_more, laid_more}
use Rattle.book.proofs.bytes.spectrum.Goals as goal

pub loop-i-init : goal.loop-i-init
unfolding laid doubles_in of_bits
loop-i-init c = refl

pub loop-i-preserved : goal.loop-i-preserved
loop-i-preserved c =
    let l = c.loop-i in
    let b = drop c.args.from c.args.b.now in
    rw (l.invariant, c.double_at.ensures, ← drop-drop, doubles_more l.i b)
    (laid_more (doubles_in l.i b) _ l.i (length-doubles_in l.i b) (omega arith))

pub returns : goal.returns
returns c =
    let l = c.loop-i in
    let all : l.i ≡ c.args.n = omega arith in
    rw (l.invariant, all)
