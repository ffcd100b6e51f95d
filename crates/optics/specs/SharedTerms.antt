-- The forms in which a term that is needed twice is computed once and handed on: wo · wh, Λ(wo), Snell's law, the step of the spectra and whether the outer one is constant. Definitions only.
-- From the term itself each is its formula of Surface.antt, Facets.antt, Fresnel.antt, Bxdf.antt or Density.antt, by the laws of proofs/SharedTerms.antt.
use Rattle.std.specs.Prelude.{Bool, true, false, cond, List, Float}
use Rattle.std.specs.Float.Ieee.{neg, lt, eq}
use Rattle.floats.specs.Float.{◌⊕◌, ◌⊗◌, ◌⊘◌, f0, f1, epsilon, max, abs, signum}
use Rattle.numbers.specs.SphericalUtils.{cos_theta}
use Rattle.numbers.specs.Vec3.{negate}
use Rattle.numbers.specs.declared.{vec2.Vec2.Vec2, vec3.Vec3.Vec3}
use Rattle.optics.specs.Facets.{lambda, masked, d}
use Rattle.optics.specs.Color.{Color, each}
use Rattle.numbers.specs.DenseSpectrum.{entry, sample_one_at}
use Rattle.optics.specs.Surface.{eta_from, k_from, quotient}
use Rattle.optics.specs.Fresnel.{f_at, index_from, sin2_i, is_total, cos_i, unpolarized, fr_complex}
use Rattle.optics.specs.Bxdf.{Outgoing, total, reflect, bent, across_only, Scattered, branch, reflects}
pub use Rattle.optics.specs.declared.microfacet.Snell.{Snell}

-- ---- from wo · wh
unfoldable pub chi_pass_at : Float → Vec3 → Vec3 → Bool
chi_pass_at wo_dot_wh wo wh = lt epsilon (signum (cos_theta wh) ⊗ wo_dot_wh ⊗ cos_theta wo)

-- ---- from Λ(wo) and wo · wh
unfoldable pub g1_at : Float → Float → Vec3 → Vec3 → Float
g1_at lambda_wo wo_dot_wh wo wh = masked (chi_pass_at wo_dot_wh wo wh) (f1 ⊕ lambda_wo)

-- G and G1 have χ⁺ and 1 + Λ(wo) in common
unfoldable pub g_over_g1_at : Vec2 → Float → Float → Vec3 → Vec3 → Vec3 → Float
g_over_g1_at a lambda_wo wo_dot_wh wo wi wh =
    let seen = f1 ⊕ lambda_wo in
    cond (chi_pass_at wo_dot_wh wo wh)
    (cond (eq (f1 ⊘ seen) f0) f0 (f1 ⊘ (seen ⊕ lambda a wi) ⊘ (f1 ⊘ seen)))
    f0

unfoldable pub sample_normal_pdf_at : Vec2 → Float → Float → Vec3 → Vec3 → Float
sample_normal_pdf_at a lambda_wo wo_dot_wh wh wo =
    max (g1_at lambda_wo wo_dot_wh wo wh ⊗ d a wh ⊗ abs wo_dot_wh ⊘ abs (cos_theta wo)) f0

-- ---- from Snell's law, which Fresnel's term and the bend have in common: cos θo, which is wo · wh, the index against wo's side, sin² θi and cos θi
unfoldable pub snell : Float → Float → Snell
snell cos_o eta = let index = index_from cos_o eta in record { cos_o = cos_o; eta = index; sin2 = sin2_i cos_o index; cos = cos_i (sin2_i cos_o index) }

unfoldable pub fr_real_from : Snell → Float
fr_real_from s = cond (is_total s.sin2) f1 (unpolarized s.eta (abs s.cos_o) s.cos)

unfoldable pub fresnel_from : Snell → Float → Float → Float
fresnel_from s eta k = cond (eq k f0) (cond (eq eta f0) f0 (fr_real_from s)) (fr_complex s.cos_o eta k)

-- against the cosine and the normal on wo's side
unfoldable pub refract_facing_from : Snell → Float → Vec3 → Vec3 → Outgoing
refract_facing_from s cos_o wo n = cond (is_total s.sin2) total (across_only wo (bent s.eta cos_o s.cos wo n))

unfoldable pub refract_from : Snell → Vec3 → Vec3 → Outgoing
refract_from s wo n =
    cond (lt s.cos_o f0) (refract_facing_from s (neg s.cos_o) wo (negate n)) (refract_facing_from s s.cos_o wo n)

unfoldable pub dielectric_from_snell : Snell → Float → Float → Vec3 → Vec3 → Scattered
dielectric_from_snell s F u wo wh =
    cond (reflects u F) (branch true (reflect wo wh)) (branch false (refract_from s wo wh))

-- ---- from the step of the spectra and whether the outer one is constant: the index of glass
unfoldable pub outer_from : Bool → Float → List Float → Float → Float
outer_from constant step outer lambda = cond constant (entry outer 0) (sample_one_at step outer lambda)

unfoldable pub quotient_from : Bool → Float → List Float → List Float → Float → Float
quotient_from constant step eta outer lambda = quotient lambda (eta_from step eta lambda) (outer_from constant step outer lambda)

-- ---- and Fresnel's terms at four wavelengths, on metal and on glass
unfoldable pub f_metal_from : Float → List Float → List Float → Vec3 → Vec3 → Color → Color
f_metal_from step eta k wo wh lambda = each (λ wl. f_at wo wh (eta_from step eta wl) (k_from step k wl)) lambda

unfoldable pub f_glass_from : Bool → Float → List Float → List Float → List Float → Vec3 → Vec3 → Color → Color
f_glass_from constant step eta k outer wo wh lambda =
    each (λ wl. f_at wo wh (quotient_from constant step eta outer wl) (k_from step k wl)) lambda
