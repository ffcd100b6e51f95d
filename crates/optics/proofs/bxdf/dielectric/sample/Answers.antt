-- `optics::bxdf::dielectric::sample` meets its contract: the calls give what their contracts promise, and Snell's law handed on changes nothing, by
-- `f_at_from` and `dielectric_from_snell_lem`.
use Rattle.optics.specs.Bxdf.{dielectric_sample}
use Rattle.optics.proofs.SharedTerms.{f_at_from, dielectric_from_snell_lem}
use Rattle.optics.proofs.bxdf.dielectric.sample.Goals as goal

pub returns : goal.returns
unfolding dielectric_sample
returns c =
    let cos = c.dot.ensures in
    let snell = c.new-snell.ensures in
    rw (← c.normal-wh.ensures, ← f_at_from _ _ _ _ _ cos _ snell _ c.fresnel_from-pr.ensures)
    (dielectric_from_snell_lem _ _ _ _ _ _ cos _ snell _ c.sample_from.ensures)
