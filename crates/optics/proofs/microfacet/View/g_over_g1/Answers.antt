-- `optics::microfacet::View::g_over_g1` meets its contract: the calls give what their contracts promise, and the definition is read in the same order.
use Rattle.std.proofs.Common.{refl}
use Rattle.optics.specs.SharedTerms.{g_over_g1_at}
use lib.Ieee.{of_bits}
use Rattle.optics.proofs.microfacet.View.g_over_g1.Goals as goal

pub returns-then-g1 : goal.returns-then-g1
unfolding g_over_g1_at of_bits
returns-then-g1 c =
    rw (
      ← c.chi_pass_at.ensures,
      c.if-chi_pass_at.true,
      c.if-g1.true,
    )

pub returns-then-chi_pass_at : goal.returns-then-chi_pass_at
unfolding g_over_g1_at of_bits
returns-then-chi_pass_at c =
    rw (
      ← c.chi_pass_at.ensures,
      c.if-chi_pass_at.true,
      c.if-g1.false,
      ← c.lambda.ensures,
    ) refl

pub returns : goal.returns
unfolding g_over_g1_at of_bits
returns c = rw (← c.chi_pass_at.ensures, c.if-chi_pass_at.false)
