-- `numbers::dense_spectrum::ceiling` meets its contract: by the test that is taken, and what the call for it gives.
use Rattle.std.specs.Float.{binary64}
use Rattle.std.specs.Float.Ieee.{of_bits, of_int}
use Rattle.std.proofs.Common.{ℕ, pos, ap, ◌∙◌}
use denote.Floats.{passes}
use Rattle.numbers.proofs.dense_spectrum.ceiling.Goals as goal

pub small_ceiling-requires : goal.small_ceiling-requires
unfolding of_bits
small_ceiling-requires c = (passes _ c.if-x.true, passes _ c.if-x-2.true)

pub returns : goal.returns
returns c = let number = c.any_ceiling-number.ensures in (number, c.nearest_u64_to_f64.ensures ∙ ap (λ (z : ℕ). of_int binary64 (pos z)) number)
