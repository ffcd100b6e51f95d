-- `numbers::dense_spectrum::DenseSpectrum::every` meets its contract: what was found of the entries so far decides together with the rest.
use Rattle.std.proofs.Common.{sym, arith}
use Rattle.std.specs.Float.{nan}
use Rattle.numbers.proofs.dense_spectrum.Every.{rest-start, rest-next, rest_ends}
use Rattle.numbers.proofs.dense_spectrum.DenseSpectrum.every.Goals as goal

pub loop-value-init : goal.loop-value-init
loop-value-init g c = λ p acts. rest-start _ _

pub loop-value-preserved : goal.loop-value-preserved
loop-value-preserved g c = let l = c.loop-value in λ p acts. rw (acts _ _ c.holds-ok.ensures) (rest-next _ _ l.value-index l.ok nan (l.invariant p acts) (omega arith))

pub returns : goal.returns
returns g c = let l = c.loop-value in λ p acts. sym (rest_ends _ _ l.value-index l.ok (l.invariant p acts) (omega arith))
