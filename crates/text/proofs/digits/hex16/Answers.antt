-- `hex16` meets its contract: each digit stands behind those that were read (`Values`).
use Rattle.std.proofs.Common.{arith, sym, ◌∙◌, get_or}
use Rattle.text.proofs.digits.Values.{one_more, fits, below_base, shifted}
use Rattle.text.proofs.digits.hex16.Goals as goal

pub loop-b-preserved : goal.loop-b-preserved
loop-b-preserved c =
    let n = c.loop-b.bits in
    let i = c.loop-b.b-index in
    let d = c.in_ok-digit.field-0 in
    let small = c.loop-b.invariant.fits in
    let below = below_base 16 (get_or c.args.digits.now i 0) d c.in_ok-digit.ensures in
    rw (c.from.ensures, shifted n d i small (omega arith) below)
    (record {
      fits = fits 16 n d i small below;
      value = sym (one_more 16 n d i c.args.digits.now c.loop-b-test.true c.in_ok-digit.ensures) ∙ c.loop-b.invariant.value;
    })
