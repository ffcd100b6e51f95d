-- `numbers::dense_spectrum::any_ceiling` meets its contract: the tests are what the cast asks of its argument, and one more than the whole part still fits.
use Rattle.std.specs.Float.{binary64}
use Rattle.std.specs.Float.Ieee.{fits, neg, of_bits}
use Rattle.numbers.specs.DenseSpectrum.{ceiling}
use Rattle.numbers.proofs.dense_spectrum.WholePart.{room}
use denote.Floats.{passes}
use Rattle.numbers.proofs.dense_spectrum.any_ceiling.Goals as goal
use Rattle.numbers.proofs.dense_spectrum.any_ceiling.Goals.{else-x-via-then-x+else-x-2, else-x-via-else-x}

pub truncating_f64_to_u64-floor-requires : goal.truncating_f64_to_u64-floor-requires
unfolding neg of_bits ceiling
truncating_f64_to_u64-floor-requires c = record { lower_bound = passes _ c.if-x.true; upper_bound = passes _ c.if-x-2.true }

pub overflow_add-result : goal.overflow_add-result
unfolding of_bits
overflow_add-result c =
    let x = c.args.x in
    record { fits = rw c.truncating_f64_to_u64-floor.ensures (room x (passes (fits binary64 x) c.well_formed.0.1) (passes _ c.if-x-2.true)) }

pub returns-then-nearest_u64_to_f64-x : goal.returns-then-nearest_u64_to_f64-x
unfolding neg of_bits ceiling
returns-then-nearest_u64_to_f64-x c = rw (c.if-x.true, c.if-x-2.true, ← c.truncating_f64_to_u64-floor.ensures, ← c.nearest_u64_to_f64.ensures, c.if-nearest_u64_to_f64-x.true)

pub returns-then-x-2 : goal.returns-then-x-2
unfolding neg of_bits ceiling
returns-then-x-2 c = rw (c.if-x.true, c.if-x-2.true, ← c.truncating_f64_to_u64-floor.ensures, ← c.nearest_u64_to_f64.ensures, c.if-nearest_u64_to_f64-x.false)

pub returns : goal.returns
unfolding neg of_bits ceiling
returns c = elim c.else-x.branch [ else-x-via-then-x+else-x-2 w ↦ rw (w.if-x.true, w.if-x-2.false) | else-x-via-else-x w ↦ rw w.if-x.false ]
