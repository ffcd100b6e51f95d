-- `path::facet::Facet::seen_on_glass` meets its contract: the calls give what their contracts promise, and Λ(wo) handed on changes nothing, by `glass-density`.
use Rattle.floats.specs.Float.{f0}
use Rattle.optics.proofs.SharedTerms.{glass-density}
use Rattle.path.proofs.facet.Facet.seen_on_glass.Goals as goal

pub returns : goal.returns
returns c =
    let one = c.requires in
    let facet = c.args.self in (
      rw (c.pdf_at-pdf.ensures) (glass-density _ f0 _ _ _ _ _ _ (rw (← one) facet.is_lambda) _ c.eta_ratio-ratio.ensures _ c.half-half.ensures),
      rw (c.shadowing-q.ensures, one),
    )
