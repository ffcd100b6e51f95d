-- `decimal` meets its contract: each digit stands behind those that were read (`Values`).
use Rattle.std.proofs.Common.{sym, ◌∙◌, get_or}
use Rattle.text.proofs.digits.Values.{one_more, fits, below_base, decimal_digit}
use Rattle.text.proofs.digits.decimal.Goals as goal

pub loop-b-preserved : goal.loop-b-preserved
loop-b-preserved c =
    let t = c.args.digits.now in
    let n = c.loop-b.value in
    let i = c.loop-b.b-index in
    let small = c.loop-b.invariant.fits in
    let is = decimal_digit (get_or t i 0) (sym c.is_ascii_digit.ensures.value ∙ c.if-not-is_ascii_digit.false) in
    rw c.from.ensures
    (record {
      fits = fits 10 n _ i small (below_base 10 (get_or t i 0) _ is);
      value = sym (one_more 10 n _ i t c.loop-b-test.true is) ∙ c.loop-b.invariant.value;
    })
