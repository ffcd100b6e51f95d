-- `path::bsdf::on_glass` meets its contract: each stage is what a call gave, what is known of the spectra and Snell's law handed on change nothing, by
-- `index_from-known`, `k_from-known`, `f_at_from` and `dielectric_from_snell_lem`, and OnSurface has the answer from the stages.
use Rattle.std.proofs.Common.{◌≡◌, cond, sym, refl}
use lib.Ieee.{of_bits}
use Rattle.optics.specs.Bxdf.{rest}
use Rattle.optics.specs.SharedTerms.{snell}
use Rattle.optics.proofs.SharedTerms.{f_at_from, dielectric_from_snell_lem, index_from-known, k_from-known}
use Rattle.path.specs.Path.{each2}
use Rattle.path.specs.Bounce.{weights_of}
use Rattle.path.specs.Answer.{outcome}
use Rattle.path.proofs.OnSurface.{left_from, glass_lost, glass_sent}
use Rattle.path.proofs.bsdf.on_glass.Goals as goal

pub returns-in_default : goal.returns-in_default
unfolding rest of_bits
returns-in_default c =
    let mfd = c.new-mfd.ensures in
    let p = c.disk_point.ensures in
    let kind = rw (← c.m.view_is) at c.requires.0 in
    let known = rw (← c.m.view_is) at c.requires.1 in
    let facet = c.on_glass-facet.ensures in
    let cos = rw (facet.2, facet.3) at c.on_glass-facet.result.is_cosine in
    let bend : c.new-snell.result ≡ snell c.on_glass-facet.result.wo_dot_wh c.constants_at-at.result.eta = rw c.new-snell.ensures refl in
    rw (← c.m.view_is, c.lost.ensures)
    (sym (glass_lost _ _ c.args.b kind _ (left_from _ _ _ _ known _ c.left_on_glass.ensures) _ c.leading_sample-leading.ensures _
    (index_from-known _ _ _ _ known _ c.constants_at-at.ensures.0) _ (k_from-known _ _ _ _ _ known _ c.constants_at-at.ensures.1) _ c.new-uvw.ensures _
    c.to_local-wo.ensures _ (rw (mfd, p.0, p.1, p.2) at c.normal-wh.ensures) _ (f_at_from _ _ _ _ _ cos _ bend _ c.fresnel_from-f.ensures) _
    (dielectric_from_snell_lem _ _ _ _ _ _ cos _ bend _ c.sample_from.ensures)
    c.in_default.not-Ok))

pub seen_on_glass-seen-requires : goal.seen_on_glass-seen-requires
seen_on_glass-seen-requires c = let facet = c.on_glass-facet.ensures in rw (facet.0) facet.1

pub returns : goal.returns
unfolding outcome rest of_bits
returns c =
    let mfd = c.new-mfd.ensures in
    let p = c.disk_point.ensures in
    let kind = rw (← c.m.view_is) at c.requires.0 in
    let known = rw (← c.m.view_is) at c.requires.1 in
    let facet = c.on_glass-facet.ensures in
    let cos = rw (facet.2, facet.3) at c.on_glass-facet.result.is_cosine in
    let bend : c.new-snell.result ≡ snell c.on_glass-facet.result.wo_dot_wh c.constants_at-at.result.eta = rw c.new-snell.ensures refl in
    let weights : c.weights.result ≡ weights_of c.left_on_glass.result (each2 (cond c.in-Ok.field-0.reflection) c.args.b.ks c.args.b.tf) c.seen_on_glass-seen.result.q =
    rw (c.weights.ensures, c.glass_filter-filter.ensures) refl in
    rw (← c.m.view_is, c.to_world.ensures, c.density_of.ensures, c.weighed.ensures, weights, c.seen_on_glass-seen.ensures.0, c.seen_on_glass-seen.ensures.1, facet.0, facet.2, facet.3, mfd)
    (sym (glass_sent _ _ c.args.b kind _ (left_from _ _ _ _ known _ c.left_on_glass.ensures) _ c.leading_sample-leading.ensures _
    (index_from-known _ _ _ _ known _ c.constants_at-at.ensures.0) _ (k_from-known _ _ _ _ _ known _ c.constants_at-at.ensures.1) _ c.new-uvw.ensures _
    c.to_local-wo.ensures _ (rw (mfd, p.0, p.1, p.2) at c.normal-wh.ensures) _ (f_at_from _ _ _ _ _ cos _ bend _ c.fresnel_from-f.ensures) _
    (dielectric_from_snell_lem _ _ _ _ _ _ cos _ bend _ c.sample_from.ensures) _ _
    c.in-Ok.is))
