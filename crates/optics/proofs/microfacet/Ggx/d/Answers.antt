-- `optics::microfacet::Ggx::d` meets its contract: the calls give what their contracts promise, and the definition is read in the same order.
use Rattle.floats.specs.Float.{epsilon, decimal}
use Rattle.optics.specs.Facets.{d, slope_squared, cos4_theta}
use lib.Ieee.{of_bits}
use Rattle.optics.proofs.microfacet.Ggx.d.Goals as goal

pub returns-then-cos4_theta-powi2 : goal.returns-then-cos4_theta-powi2
unfolding d cos4_theta epsilon decimal of_bits
returns-then-cos4_theta-powi2 c =
    rw (← c.tan2_theta-tan2_theta.ensures, ← c.is_infinite.ensures, c.if-is_infinite.false, ← c.cos2_theta.ensures, ← c.powi2-cos4_theta.ensures, ← c.powi2.ensures, c.if-cos4_theta-powi2.true)

pub returns : goal.returns
unfolding d slope_squared cos4_theta epsilon decimal of_bits
returns c =
    rw (← c.tan2_theta-tan2_theta.ensures, ← c.is_infinite.ensures, c.if-is_infinite.false, ← c.cos2_theta.ensures, ← c.powi2-cos4_theta.ensures, ← c.powi2.ensures, c.if-cos4_theta-powi2.false, ← c.cos_sin_phi-phi.ensures.0, ← c.cos_sin_phi-phi.ensures.1, ← c.powi2-2.ensures, ← c.powi2-3.ensures, ← c.powi2-4.ensures)
