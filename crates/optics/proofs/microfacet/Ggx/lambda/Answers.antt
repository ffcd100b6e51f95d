-- `optics::microfacet::Ggx::lambda` meets its contract: the calls give what their contracts promise, and the definition is read in the same order.
use Rattle.optics.specs.Facets.{lambda, lambda_of, alpha2}
use lib.Ieee.{of_bits}
use Rattle.optics.proofs.microfacet.Ggx.lambda.Goals as goal

pub returns : goal.returns
unfolding lambda lambda_of alpha2 of_bits
returns c =
    rw (← c.tan2_theta-tan2_theta.ensures, ← c.is_infinite.ensures, c.if-is_infinite.false, ← c.cos_sin_phi-phi.ensures.0, ← c.cos_sin_phi-phi.ensures.1, ← c.powi2.ensures, ← c.powi2-2.ensures, ← c.sqrt_or_zero.ensures)
