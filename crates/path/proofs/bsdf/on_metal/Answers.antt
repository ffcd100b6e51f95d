-- `path::bsdf::on_metal` meets its contract: each stage is what a call gave, the step handed on changes nothing (`f_metal_from_lem`), and OnSurface has the answer from the stages.
use Rattle.std.proofs.Common.{sym}
use Rattle.optics.proofs.SharedTerms.{f_metal_from_lem}
use Rattle.path.specs.Answer.{outcome, branch_of}
use Rattle.path.proofs.OnSurface.{metal_backface, metal_lost, metal_sent}
use Rattle.path.proofs.bsdf.on_metal.Goals as goal

pub returns-then-b : goal.returns-then-b
returns-then-b c outside = rw c.lost.ensures (sym (metal_backface _ _ c.args.b c.requires.0 c.if-b.true))

pub returns-in_default : goal.returns-in_default
returns-in_default c outside =
    let mfd = c.new-mfd.ensures in
    let p = c.disk_point.ensures in
    rw (c.lost-in_default.ensures, ← c.m.view_is)
    (sym (metal_lost _ _ c.args.b (rw (← c.m.view_is) at c.requires.0) c.if-b.false _ c.new-uvw.ensures _ c.to_local-wo.ensures _
    (rw (mfd, p.0, p.1, p.2) at c.normal-wh.ensures) _ (rw mfd at c.sample_from.ensures) c.in_default.not-Ok))

pub seen_on_metal-seen-requires : goal.seen_on_metal-seen-requires
seen_on_metal-seen-requires c = let facet = c.on_metal-facet.ensures in rw (facet.0) facet.1

pub returns : goal.returns
unfolding outcome branch_of
returns c outside =
    let mfd = c.new-mfd.ensures in
    let p = c.disk_point.ensures in
    let spectra = c.m.inside.spectra in
    let facet = c.on_metal-facet.ensures in
    rw (← c.m.view_is, c.to_world.ensures, c.density_of.ensures, c.weighed.ensures, c.weights.ensures, c.metal_filter-filter.ensures, c.f_on_metal-f.ensures, rw (← c.m.view_is) at c.requires.1, f_metal_from_lem spectra.eta spectra.k outside, c.seen_on_metal-seen.ensures.0, c.seen_on_metal-seen.ensures.1, facet.0, facet.2, facet.3, mfd)
    (sym (metal_sent _ _ c.args.b (rw (← c.m.view_is) at c.requires.0) c.if-b.false _ c.new-uvw.ensures _ c.to_local-wo.ensures _
    (rw (mfd, p.0, p.1, p.2) at c.normal-wh.ensures) _ (rw mfd at c.sample_from.ensures) _ _ c.in-Ok.is))
