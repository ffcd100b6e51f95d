-- `optics::bxdf::conductor::pdf` meets its contract: it is `pdf_at` from Λ(wo) where that is read, by `metal-density`.
use Rattle.floats.specs.Float.{f0}
use Rattle.optics.proofs.SharedTerms.{metal-density}
use Rattle.optics.proofs.bxdf.conductor.pdf.Goals as goal

pub returns : goal.returns
returns c =
    let view = c.new.ensures in
    rw (c.pdf_at.ensures, view.0, view.1)
    (metal-density _ f0 _ _ _ (rw (← c.is_delta.ensures) view.3) _ c.half.ensures)
