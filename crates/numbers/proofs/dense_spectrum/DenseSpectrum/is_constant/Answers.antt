-- `numbers::dense_spectrum::DenseSpectrum::is_constant` meets its contract: where the last entry is another than the first, not every entry equals it
-- (`every_fails`); else the test of all decides.
use Rattle.std.proofs.lemmas.Bool.{not-true}
use Rattle.std.specs.Float.{nan}
use Rattle.std.specs.Float.Ieee.{ne}
use Rattle.std.proofs.Common.{◌-◌, length, sym, arith, rules}
use Rattle.numbers.specs.DenseSpectrum.{is_constant}
use Rattle.numbers.proofs.dense_spectrum.Every.{every_fails}
use Rattle.numbers.proofs.dense_spectrum.DenseSpectrum.is_constant.Goals as goal

pub returns-then-first-last : goal.returns-then-first-last
unfolding is_constant ne
returns-then-first-last c =
    let values = c.args.self.now.values.now in
    let at = c.in-Some.ensures.item.3 in
    rw (← c.entry-first.ensures) (sym (every_fails _ values (length values - 1) (omega (arith, at.0)) (rw (← at.1 nan) (not-true _ c.if-first-last.true))))

pub returns : goal.returns
unfolding is_constant
returns c = rw (← c.entry-first.ensures) (c.every.ensures _ (λ x r e. search rules))
