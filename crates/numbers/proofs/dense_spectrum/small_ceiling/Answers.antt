-- `numbers::dense_spectrum::small_ceiling` meets its contract, by `near_of` of SmallCeiling; no difference or sum of patterns wraps.
use Rattle.std.specs.Float.Ieee.{of_bits}
use Rattle.std.proofs.Common.{Bool, not, T, sym, subst}
use Rattle.numbers.proofs.dense_spectrum.SmallCeiling.{near_of}
use denote.Floats.{passes}
use Rattle.numbers.proofs.dense_spectrum.small_ceiling.Goals as goal

pub float_to_bits-number : goal.float_to_bits-number
unfolding of_bits
float_to_bits-number c = (near_of c.args.x (passes _ c.well_formed.0.1) c.requires).not_nan

pub overflow_sub-number : goal.overflow_sub-number
unfolding of_bits
overflow_sub-number c = (near_of c.args.x (passes _ c.well_formed.0.1) c.requires).reaches

pub overflow_add-result : goal.overflow_add-result
unfolding of_bits
overflow_add-result c = record { fits = (near_of c.args.x (passes _ c.well_formed.0.1) c.requires).few }

pub returns-then-value-x : goal.returns-then-value-x
unfolding of_bits
returns-then-value-x c = (near_of c.args.x (passes _ c.well_formed.0.1) c.requires).from_below (passes _ c.if-value-x.true)

pub returns : goal.returns
unfolding of_bits
returns c = (near_of c.args.x (passes _ c.well_formed.0.1) c.requires).at_whole (subst (λ (b : Bool). T (not b)) (sym c.if-value-x.false) tt)
