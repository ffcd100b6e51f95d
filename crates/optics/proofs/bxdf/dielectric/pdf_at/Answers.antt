-- `optics::bxdf::dielectric::pdf_at` meets its contract: the calls give what their contracts promise, and the definition is read in the same order.
-- Smooth glass doesn't read the density of the normal, by `normal_unread`.
use Rattle.floats.specs.Float.{f0}
use Rattle.optics.specs.Density.{dielectric_pdf_from}
use Rattle.optics.specs.Fresnel.{f_at}
use Rattle.optics.proofs.SharedTerms.{normal_unread}
use Rattle.optics.proofs.bxdf.dielectric.pdf_at.Goals as goal

pub returns-then-reflection : goal.returns-then-reflection
unfolding dielectric_pdf_from f_at
returns-then-reflection c =
    let facet = c.new-facet.ensures in
    let cos = c.new-facet.result in
    rw (← facet.2, ← normal_unread _ f0 _ _ _ _ _ _ _ _, ← facet.0, ← facet.1, ← facet.3, ← facet.4, ← facet.5, ← cos.cos_wo, ← cos.cos_wi, ← c.is_discarded.ensures, c.if-is_discarded.false, ← c.normal_pdf-normal_pdf.ensures, ← c.fresnel-pr.ensures, c.if-reflection.true, ← c.reflected_pdf.ensures)

pub returns : goal.returns
unfolding dielectric_pdf_from f_at
returns c =
    let facet = c.new-facet.ensures in
    let cos = c.new-facet.result in
    rw (← facet.2, ← normal_unread _ f0 _ _ _ _ _ _ _ _, ← facet.0, ← facet.1, ← facet.3, ← facet.4, ← facet.5, ← cos.cos_wo, ← cos.cos_wi, ← c.is_discarded.ensures, c.if-is_discarded.false, ← c.normal_pdf-normal_pdf.ensures, ← c.fresnel-pr.ensures, c.if-reflection.false, ← c.passed_pdf.ensures)
