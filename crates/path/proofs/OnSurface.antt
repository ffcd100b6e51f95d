-- What a bounce that isn't refused answers, from what its stages gave, one after the other: on metal (`metal_backface`, `metal_lost`, `metal_sent`)
-- and on glass (`glass_lost`, `glass_sent`). The stages are variables here, so that a definition is opened where it is small.
use Rattle.std.proofs.Common.{◌≡◌, Ok, Some, None, Bool, true, false, cond, List, ap, ◌∙◌}
use lib.Ieee.{Float}
use Rattle.floats.specs.Float.{f0}
use Rattle.numbers.specs.Onb.{basis, to_local, to_world}
use Rattle.numbers.specs.declared.onb.Onb.{Onb}
use Rattle.numbers.specs.declared.vec3.Vec3.{Vec3}
use Rattle.optics.specs.Color.{color}
use Rattle.optics.specs.Surface.{medium, Microsurface, k_at, index_on, index_at}
use Rattle.optics.specs.Known.{known_on_glass}
use Rattle.optics.specs.declared.microfacet.Known.{Known}
use Rattle.optics.specs.Facets.{is_delta}
use Rattle.optics.specs.Fresnel.{f_at, f}
use Rattle.optics.specs.Bxdf.{sample, sampled, rest, is_smooth, conductor_normal, conductor_from, dielectric_normal, dielectric_from}
use Rattle.optics.specs.Density.{pdf, pdf_of, conductor_pdf, dielectric_pdf}
use Rattle.optics.specs.declared.color.Color.{Color}
use Rattle.optics.specs.declared.microfacet.Kind.TheVariants.{Metal, Glass}
use Rattle.path.specs.declared.records.Path.{Path}
use Rattle.path.specs.declared.records.Bounce.{Bounce}
use Rattle.path.specs.Path.{path, each2, weighed, leading, terminate}
use Rattle.path.specs.Bounce.{advanced, lambda_on, left_on, left_on_glass, scatter, scatter_on, local_wo, leading_index, facet, facet_of, share, weights, weights_from, weights_of, weight_from, filter, metal_filter, fresnel_at, shadowing, shadowing_on, one_direction}
use Rattle.path.specs.Answer.{two_shares, lost, reflected, on_surface, worked, shares, shares_on, branch_of, density, density_of}
use Rattle.path.proofs.Direction.{Sampled, Directionless, no_direction, no_weights, metal-reflects}

abbrev dark : Color
dark = color f0 f0 f0 f0

-- ---- metal
pub metal_backface : (p : Path) (m : Microsurface) (b : Bounce) → m.kind ≡ Metal → b.backface ≡ true
    → on_surface p m b ≡ lost None (path p.lambda (weighed p.power dark))
unfolding on_surface lambda_on left_on scatter scatter_on shares shares_on advanced weights weights_from worked weight_from
metal_backface p m b kind e = rw (kind, e)

pub metal_lost : (p : Path) (m : Microsurface) (b : Bounce) → m.kind ≡ Metal → b.backface ≡ false
    → (u : Onb) → u ≡ basis b.normal
    → (wo : Vec3) → wo ≡ to_local u b.wo
    → (wh : Vec3) → wh ≡ conductor_normal m.roughness wo b.disk b.c b.s
    → (s : Sampled) → sampled s ≡ conductor_from m.roughness wo wh → Directionless s
    → on_surface p m b ≡ lost None (path p.lambda (weighed p.power dark))
unfolding on_surface lambda_on left_on scatter scatter_on local_wo facet facet_of shares shares_on advanced weights
metal_lost p m b kind front u eu wo ewo wh ewh s es none =
    rw (kind, front, ← eu, ← ewo, ← ewh, ← es, no_weights s none, no_direction s none)

pub metal_sent : (p : Path) (m : Microsurface) (b : Bounce) → m.kind ≡ Metal → b.backface ≡ false
    → (u : Onb) → u ≡ basis b.normal
    → (wo : Vec3) → wo ≡ to_local u b.wo
    → (wh : Vec3) → wh ≡ conductor_normal m.roughness wo b.disk b.c b.s
    → (s : Sampled) → sampled s ≡ conductor_from m.roughness wo wh → (wi : Vec3) (r : Bool) → s ≡ Ok (sample wi r)
    → on_surface p m b
    ≡ reflected (to_world u wi) (density_of (conductor_pdf m.roughness wo wi)) None (path p.lambda (weighed p.power
    (weights_of p.lambda (each2 metal_filter b.ks (f Metal m.eta m.k m.outside wo wh p.lambda)) (shadowing (is_delta m.roughness) m.roughness wo wi wh))))
unfolding on_surface lambda_on left_on scatter scatter_on local_wo facet facet_of shares shares_on advanced weights weights_from weights_of worked weight_from branch_of density pdf pdf_of filter fresnel_at shadowing_on one_direction sampled f index_at
metal_sent p m b kind front u eu wo ewo wh ewh s es wi r es' =
    rw (kind, front, ← eu, ← ewo, ← ewh, ← es, es', metal-reflects m.roughness wo wh wi r s es es', ← eu, ← ewo, ← ewh)

-- ---- glass, its index n and its absorption x at the leading wavelength that is left
pub left_from : (known : Known) (eta outer : List Float) (lambda : Color) → known ≡ known_on_glass eta outer
    → (l : Color) → l ≡ cond known.eta_constant lambda (terminate lambda) → l ≡ left_on_glass eta (medium outer) lambda
unfolding left_on_glass known_on_glass
left_from known eta outer lambda c l e = e ∙ ap (λ (x : Known). cond x.eta_constant lambda (terminate lambda)) c

pub glass_lost : (p : Path) (m : Microsurface) (b : Bounce) → m.kind ≡ Glass
    → (l : Color) → l ≡ left_on_glass m.eta m.outside p.lambda
    → (wl : Float) → wl ≡ leading l → (n : Float) → n ≡ index_on Glass m.eta m.outside wl → (x : Float) → x ≡ k_at m.eta m.k wl
    → (u : Onb) → u ≡ basis b.normal
    → (wo : Vec3) → wo ≡ to_local u b.wo
    → (wh : Vec3) → wh ≡ dielectric_normal m.roughness n wo b.disk b.c b.s
    → (F : Float) → F ≡ f_at wo wh n x
    → (s : Sampled) → sampled s ≡ dielectric_from n F b.u wo wh → Directionless s
    → on_surface p m b ≡ lost (Some (two_shares F (rest F))) (path l (weighed p.power dark))
unfolding on_surface lambda_on left_on scatter scatter_on local_wo leading_index facet facet_of share fresnel_at shares shares_on advanced weights index_at
glass_lost p m b kind l el wl ewl n en x ex u eu wo ewo wh ewh F eF s es none =
    rw (kind, ← el, ← ewl, ← en, ← ex, ← eu, ← ewo, ← ewh, ← eF, ← es, no_weights s none, no_direction s none, ← ewl, ← en, ← ex, ← eu, ← ewo, ← ewh, ← eF)

pub glass_sent : (p : Path) (m : Microsurface) (b : Bounce) → m.kind ≡ Glass
    → (l : Color) → l ≡ left_on_glass m.eta m.outside p.lambda
    → (wl : Float) → wl ≡ leading l → (n : Float) → n ≡ index_on Glass m.eta m.outside wl → (x : Float) → x ≡ k_at m.eta m.k wl
    → (u : Onb) → u ≡ basis b.normal
    → (wo : Vec3) → wo ≡ to_local u b.wo
    → (wh : Vec3) → wh ≡ dielectric_normal m.roughness n wo b.disk b.c b.s
    → (F : Float) → F ≡ f_at wo wh n x
    → (s : Sampled) → sampled s ≡ dielectric_from n F b.u wo wh → (wi : Vec3) (r : Bool) → s ≡ Ok (sample wi r)
    → on_surface p m b
    ≡ branch_of r (to_world u wi) (density_of (dielectric_pdf m.roughness n x r wo wi)) (Some (two_shares F (rest F))) (path l (weighed p.power
    (weights_of l (each2 (cond r) b.ks b.tf) (shadowing (is_smooth m.roughness n) m.roughness wo wi wh))))
unfolding on_surface lambda_on left_on scatter scatter_on local_wo leading_index facet facet_of share fresnel_at shares shares_on advanced weights weights_from weights_of worked weight_from density pdf pdf_of filter shadowing_on one_direction sampled index_at
glass_sent p m b kind l el wl ewl n en x ex u eu wo ewo wh ewh F eF s es wi r es' =
    rw (kind, ← el, ← ewl, ← en, ← ex, ← eu, ← ewo, ← ewh, ← eF, ← es, es', ← ewl, ← en, ← ex, ← eu, ← ewo, ← ewh, ← eF)
