-- `optics::microfacet::Ggx::g` meets its contract: the calls give what their contracts promise, and the definition is read in the same order.
use Rattle.std.proofs.Common.{refl}
use Rattle.optics.specs.Facets.{g, masked}
use lib.Ieee.{of_bits}
use Rattle.optics.proofs.microfacet.Ggx.g.Goals as goal

pub returns-then-chi_pass : goal.returns-then-chi_pass
unfolding g masked of_bits
returns-then-chi_pass c = rw (← c.chi_pass.ensures, c.if-chi_pass.true, ← c.lambda.ensures, ← c.lambda-then-chi_pass.ensures) refl

pub returns : goal.returns
unfolding g masked of_bits
returns c = rw (← c.chi_pass.ensures, c.if-chi_pass.false)
