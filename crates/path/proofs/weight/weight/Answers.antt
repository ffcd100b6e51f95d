-- `path::weight::weight` meets its contract: by the test of the wavelength.
use Rattle.std.proofs.Common.{refl}
use lib.Ieee.{of_bits}
use Rattle.path.specs.Bounce.{weight}
use Rattle.path.proofs.weight.weight.Goals as goal

pub returns-then-wl : goal.returns-then-wl
unfolding weight of_bits
returns-then-wl c = rw c.if-wl.true

pub returns-else-wl : goal.returns-else-wl
unfolding weight of_bits
returns-else-wl c = rw c.if-wl.false refl
