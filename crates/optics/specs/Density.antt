-- The densities of the samplers of metal and glass, in the order of operations of lumo's src/tracer/bxdf/microfacet.rs. Definitions only.
-- A NaN inside follows IEEE comparisons and `max`. eta is the index and k the absorption at the leading wavelength, and normalPdf is the density of the facet's normal wh.
use Rattle.std.specs.Prelude.{Bool, false, ◌||◌, cond, pos, Float}
use Rattle.std.specs.Float.{fin}
use Rattle.std.specs.Float.Ieee.{lt, eq}
use Rattle.floats.specs.Float.{◌⊕◌, ◌⊖◌, ◌⊗◌, ◌⊘◌, f0, f1, abs, epsilon, powi2}
use Rattle.numbers.specs.Vec3.{Z, add, mul_float, negate, dot, normalize}
use Rattle.numbers.specs.SphericalUtils.{cos_theta, same_hemisphere}
use Rattle.numbers.specs.declared.{vec2.Vec2.Vec2, vec3.Vec3.Vec3}
use Rattle.optics.specs.Facets.{is_delta, sample_normal_pdf}
use Rattle.optics.specs.Fresnel.{f_at}
use Rattle.optics.specs.Surface.{Kind, Metal, Glass, Microsurface, index_at, k_at}
use Rattle.optics.specs.Bxdf.{is_smooth, rest}

abbrev pub f4 : Float
f4 = fin false 1 (pos 2)

-- the normal turned to Z's side
unfoldable pub on_z_side : Vec3 → Vec3
on_z_side wh = cond (lt (cos_theta wh) f0) (negate wh) wh

-- a facet so near to Z that a delta surface has it: all of the density, else none
unfoldable pub at_z : Vec3 → Float → Float
at_z wh density = cond (lt (f1 ⊖ cos_theta wh) epsilon) density f0

-- the density of a mirrored direction: that of its normal, by 4 |wo · wh|, the Jacobian of the mirror (Walter et al. 2007, eq. 14)
unfoldable pub mirrored_pdf : Float → Vec3 → Vec3 → Float
mirrored_pdf normal_pdf wo wh = normal_pdf ⊘ (f4 ⊗ abs (dot wo wh))

-- the density of a bent direction: by |wi · wh| / (wi · wh + wo · wh / η)², the Jacobian of the bend (Walter et al. 2007, eq. 17)
unfoldable pub bent_pdf : Float → Float → Vec3 → Vec3 → Vec3 → Float
bent_pdf normal_pdf ratio wo wi wh = normal_pdf ⊗ abs (dot wi wh) ⊘ powi2 (dot wi wh ⊕ dot wo wh ⊘ ratio)

-- ---- metal
unfoldable pub conductor_half : Vec3 → Vec3 → Vec3
conductor_half wo wi = on_z_side (normalize (add wo wi))

unfoldable pub conductor_pdf_from : Float → Bool → Vec3 → Vec3 → Vec3 → Float
conductor_pdf_from normal_pdf delta wo wi wh =
    cond (same_hemisphere wi wo) (cond delta (at_z wh f1) (mirrored_pdf normal_pdf wo wh)) f0

unfoldable pub conductor_pdf : Vec2 → Vec3 → Vec3 → Float
conductor_pdf a wo wi =
    let wh = conductor_half wo wi in
    conductor_pdf_from (sample_normal_pdf a wh wo) (is_delta a) wo wi wh

-- ---- glass
-- the index from wo's side to wi's: 1 for a reflection
unfoldable pub eta_ratio : Bool → Vec3 → Float → Float
eta_ratio reflection wo eta = cond reflection f1 (cond (lt (cos_theta wo) f0) (f1 ⊘ eta) eta)

-- the normal that takes wo to wi (Walter et al. 2007, eq. 13 and 16)
unfoldable pub dielectric_half : Float → Float → Vec3 → Vec3 → Vec3
dielectric_half eta ratio wo wi = on_z_side (cond (eq eta f1) Z (normalize (add wo (mul_float wi ratio))))

-- a facet edge-on to wo or wi, or seen from behind, has none
unfoldable pub is_discarded : Float → Float → Vec3 → Vec3 → Bool
is_discarded wh_dot_wo wh_dot_wi wo wi =
    (eq wh_dot_wo f0 || eq wh_dot_wi f0)
    || (lt (wh_dot_wo ⊗ cos_theta wo) f0 || lt (wh_dot_wi ⊗ cos_theta wi) f0)

-- a reflection's share pr, and a passed one's pt
unfoldable pub reflected_pdf : Float → Bool → Float → Vec3 → Vec3 → Float
reflected_pdf normal_pdf smooth pr wo wh =
    cond smooth
    (at_z wh (pr ⊘ (pr ⊕ rest pr)))
    (mirrored_pdf normal_pdf wo wh ⊗ pr ⊘ (pr ⊕ rest pr))

unfoldable pub passed_pdf : Float → Bool → Float → Float → Vec3 → Vec3 → Vec3 → Float
passed_pdf normal_pdf smooth ratio pr wo wi wh =
    cond smooth
    (at_z wh (rest pr ⊘ (pr ⊕ rest pr)))
    (bent_pdf normal_pdf ratio wo wi wh ⊗ rest pr ⊘ (pr ⊕ rest pr))

unfoldable pub dielectric_pdf_from : Float → Bool → Float → Float → Float → Bool → Vec3 → Vec3 → Vec3 → Float
dielectric_pdf_from normal_pdf smooth eta k ratio reflection wo wi wh =
    let pr = f_at wo wh eta k in
    cond (is_discarded (dot wo wh) (dot wi wh) wo wi) f0
    (cond reflection (reflected_pdf normal_pdf smooth pr wo wh) (passed_pdf normal_pdf smooth ratio pr wo wi wh))

unfoldable pub dielectric_pdf : Vec2 → Float → Float → Bool → Vec3 → Vec3 → Float
dielectric_pdf a eta k reflection wo wi =
    let ratio = eta_ratio reflection wo eta in
    let wh = dielectric_half eta ratio wo wi in
    dielectric_pdf_from (sample_normal_pdf a wh wo) (is_smooth a eta) eta k ratio reflection wo wi wh

-- ---- lumo's `BxDF::pdf`: light that passes metal has none
unfoldable pub pdf_of : Kind → Vec2 → Float → Float → Bool → Vec3 → Vec3 → Float
pdf_of Metal a eta k reflection wo wi = cond reflection (conductor_pdf a wo wi) f0
pdf_of Glass a eta k reflection wo wi = dielectric_pdf a eta k reflection wo wi

unfoldable pub pdf : Microsurface → Vec3 → Vec3 → Bool → Float → Float
pdf m wo wi reflection lambda =
    pdf_of m.kind m.roughness (index_at m lambda) (k_at m.eta m.k lambda) reflection wo wi
