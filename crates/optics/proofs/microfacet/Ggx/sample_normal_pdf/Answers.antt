-- `optics::microfacet::Ggx::sample_normal_pdf` meets its contract: it is the view's, from Λ(wo) and wo · wh, by `normal-density`.
use Rattle.optics.proofs.SharedTerms.{normal-density}
use Rattle.optics.proofs.microfacet.Ggx.sample_normal_pdf.Goals as goal

pub returns : goal.returns
returns c =
    let v = c.seen_from.ensures in
    rw (c.sample_normal_pdf.ensures, v.3, c.dot.ensures, v.0, v.1) (normal-density _ _ _)
