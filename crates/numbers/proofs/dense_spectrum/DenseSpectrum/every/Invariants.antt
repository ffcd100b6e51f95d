-- `numbers::dense_spectrum::DenseSpectrum::every` meets its contract: what was found of the entries so far decides together with the rest.
use Rattle.std.proofs.Common.{◌≡◌, Bool}
use Rattle.std.specs.Prelude.{Float}
use Rattle.numbers.proofs.dense_spectrum.Every.{Rest}
use Rattle.numbers.proofs.dense_spectrum.DenseSpectrum.every.Given as goal

abbrev pub invariant-loop-value : goal.invariant-loop-value
invariant-loop-value g l = (p : Float → Bool) → ((x : Float) (r : Bool) → goal.F-post g l.fn.holds x r → r ≡ p x) → Rest p l.value-items l.value-index l.ok
