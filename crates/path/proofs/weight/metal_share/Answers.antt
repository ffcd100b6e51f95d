-- `path::weight::metal_share` meets its contract: by its two tests.
use Rattle.std.proofs.Common.{refl}
use lib.Ieee.{of_bits}
use Rattle.path.specs.Bounce.{metal_share}
use Rattle.path.proofs.weight.metal_share.Goals as goal

pub returns-then-is_nan : goal.returns-then-is_nan
unfolding metal_share of_bits
returns-then-is_nan c = rw (← c.is_nan.ensures.value, c.if-is_nan.true)

pub returns-then-f : goal.returns-then-f
unfolding metal_share of_bits
returns-then-f c = rw (← c.is_nan.ensures.value, c.if-is_nan.false, c.if-f.true)

pub returns-else-f : goal.returns-else-f
unfolding metal_share of_bits
returns-else-f c = rw (← c.is_nan.ensures.value, c.if-is_nan.false, c.if-f.false) refl
