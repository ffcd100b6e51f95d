-- `optics::microfacet::quotient` meets its contract: by the test of the wavelength.
use Rattle.std.proofs.Common.{refl}
use lib.Ieee.{of_bits}
use Rattle.optics.specs.Surface.{quotient}
use Rattle.optics.proofs.microfacet.quotient.Goals as goal

pub returns-then-wl : goal.returns-then-wl
unfolding quotient of_bits
returns-then-wl c = rw c.if-wl.true

pub returns : goal.returns
unfolding quotient of_bits
returns c = rw c.if-wl.false refl
