-- `optics::bxdf::dielectric::pdf` meets its contract: it is `pdf_at` from Λ(wo) where that is read, by `glass-density`.
use Rattle.floats.specs.Float.{f0}
use Rattle.optics.proofs.SharedTerms.{glass-density}
use Rattle.optics.proofs.bxdf.dielectric.pdf.Goals as goal

pub returns : goal.returns
returns c =
    let view = c.new-view.ensures in
    rw (c.pdf_at.ensures, view.0, view.1)
    (glass-density _ f0 _ _ _ _ _ _ (rw (← c.is_smooth.ensures) view.3) _ c.eta_ratio-ratio.ensures _ c.half-wh.ensures)
