-- `optics::microfacet::Ggx::g_over_g1` meets its contract: it is the view's, from Λ(wo) and wo · wh, by `g_over_g1_at_lem`.
use Rattle.optics.proofs.SharedTerms.{g_over_g1_at_lem}
use Rattle.optics.proofs.microfacet.Ggx.g_over_g1.Goals as goal

pub returns : goal.returns
returns c =
    let v = c.seen_from.ensures in
    rw (c.g_over_g1.ensures, v.3, c.dot.ensures, v.0, v.1) (g_over_g1_at_lem _ _ _ _)
