-- A term that is computed once and handed on changes nothing: from it each form of specs/SharedTerms.antt is its formula.
-- The cosine wo · wh stands for wh · wo, by `dot_comm`. Where a surface scatters into one direction its density doesn't read Λ(wo), so
-- that any number does there (`metal-density`, `glass-density`), nor on glass the density of the normal (`normal_unread`).
use Rattle.std.proofs.Common.{◌≡◌, refl, ap, ◌∙◌, Bool, true, false, cond, List, Float}
use lib.Ieee.{neg, lt, eq}
use Rattle.floats.specs.Float.{◌⊕◌, ◌⊘◌, f0, f1}
use Rattle.numbers.specs.SphericalUtils.{sin_theta, cos_phi, sin_phi, azimuth}
use Rattle.numbers.specs.Vec3.{negate, dot}
use Rattle.numbers.specs.declared.vec2.Vec2.{Vec2}
use Rattle.numbers.specs.declared.vec3.Vec3.{Vec3}
use Rattle.optics.specs.Facets.{is_delta, lambda, chi_pass, masked, g1, g, g_over_g1, sample_normal_pdf}
use Rattle.numbers.specs.DenseSpectrum.{step_of, is_constant}
use Rattle.optics.specs.Color.{Color}
use Rattle.optics.specs.Surface.{Metal, Glass, Outside, medium, k_from, eta_at, k_at, outer_at, index_on}
use Rattle.optics.specs.Fresnel.{index_from, sin2_i, cos_i, fr_facing, fr_real, fresnel, f_at, f}
use Rattle.optics.specs.Bxdf.{refract_facing, refract, Scattered, is_smooth, dielectric_from}
use Rattle.optics.specs.Density.{conductor_half, conductor_pdf_from, conductor_pdf, eta_ratio, dielectric_half, reflected_pdf, passed_pdf, dielectric_pdf_from, dielectric_pdf}
use Rattle.optics.specs.SharedTerms.{Snell, chi_pass_at, g1_at, g_over_g1_at, sample_normal_pdf_at, snell, fr_real_from, fresnel_from, refract_facing_from, refract_from, dielectric_from_snell, outer_from, quotient_from, f_metal_from, f_glass_from}
use Rattle.optics.specs.Known.{Known, reading_on_glass, known_on_glass}
use Rattle.optics.proofs.Cosine.{dot_comm, sin2_abs, sin2_neg}

-- ---- the azimuth
pub cos_phi_lem : (w : Vec3) → cos_phi w ≡ azimuth w.x (sin_theta w) f1
unfolding cos_phi azimuth
cos_phi_lem w = refl

pub sin_phi_lem : (w : Vec3) → sin_phi w ≡ azimuth w.y (sin_theta w) f0
unfolding sin_phi azimuth
sin_phi_lem w = refl

-- ---- masking
pub chi_pass_lem : (wo wh : Vec3) → chi_pass_at (dot wo wh) wo wh ≡ chi_pass wo wh
unfolding chi_pass_at chi_pass
chi_pass_lem wo wh = refl

pub g1_at_lem : (a : Vec2) (wo wh : Vec3) → g1_at (lambda a wo) (dot wo wh) wo wh ≡ g1 a wo wh
unfolding g1_at g1
g1_at_lem a wo wh = rw (chi_pass_lem wo wh)

pub g_over_g1_at_lem : (a : Vec2) (wo wi wh : Vec3) → g_over_g1_at a (lambda a wo) (dot wo wh) wo wi wh ≡ g_over_g1 a wo wi wh
unfolding g_over_g1_at g_over_g1 g1 g masked eq
g_over_g1_at_lem a wo wi wh = rw (chi_pass_lem wo wh) (go (chi_pass wo wh))
  where
    seen : Float
    seen = f1 ⊕ lambda a wo

    first : Float
    first = f1 ⊘ seen

    both : Float
    both = f1 ⊘ (seen ⊕ lambda a wi)

    go : (chi : Bool) → cond chi (cond (eq first f0) f0 (both ⊘ first)) f0 ≡ cond (eq (cond chi first f0) f0) f0 (cond chi both f0 ⊘ cond chi first f0)
    go true = refl
    go false = refl

-- ---- Snell's law; c is the cosine that is handed on, and s the law
pub fr_real_from_lem : (cos_o eta : Float) → fr_real_from (snell cos_o eta) ≡ fr_real cos_o eta
unfolding fr_real_from snell fr_real fr_facing
fr_real_from_lem cos_o eta = rw (sin2_abs cos_o (index_from cos_o eta))

fresnel_from_lem : (cos_o eta k : Float) → fresnel_from (snell cos_o eta) eta k ≡ fresnel cos_o eta k
unfolding fresnel_from fresnel snell
fresnel_from_lem cos_o eta k = rw (fr_real_from_lem cos_o eta)

pub f_at_from : (wo wh : Vec3) (eta k : Float) → (c : Float) → c ≡ dot wo wh → (s : Snell) → s ≡ snell c eta
    → (F : Float) → F ≡ fresnel_from s eta k → F ≡ f_at wo wh eta k
unfolding f_at
f_at_from wo wh eta k c ec s es F eF = rw (eF, es, ← ec) (fresnel_from_lem c eta k)

pub refract_from_lem : (eta : Float) (wo n : Vec3) → refract_from (snell (dot n wo) eta) wo n ≡ refract eta wo n
unfolding refract_from refract_facing_from snell index_from refract refract_facing
refract_from_lem eta wo n = go (lt c f0)
  where
    c : Float
    c = dot n wo

    from : Float → Snell
    from index = record { cos_o = c; eta = index; sin2 = sin2_i c index; cos = cos_i (sin2_i c index) }

    go : (below : Bool) → let s = from (cond below (f1 ⊘ eta) eta) in
        cond below (refract_facing_from s (neg c) wo (negate n)) (refract_facing_from s c wo n)
        ≡ cond below (refract_facing (f1 ⊘ eta) (neg c) wo (negate n)) (refract_facing eta c wo n)
    go true = rw (sin2_neg c (f1 ⊘ eta))
    go false = refl

pub dielectric_from_snell_lem : (eta F u : Float) (wo wh : Vec3) → (c : Float) → c ≡ dot wo wh → (s : Snell) → s ≡ snell c eta
    → (r : Scattered) → r ≡ dielectric_from_snell s F u wo wh → r ≡ dielectric_from eta F u wo wh
unfolding dielectric_from_snell dielectric_from
dielectric_from_snell_lem eta F u wo wh c ec s es r er = rw (er, es, ec, dot_comm wo wh, refract_from_lem eta wo wh)

-- ---- the densities
pub normal-density : (a : Vec2) (wh wo : Vec3) → sample_normal_pdf_at a (lambda a wo) (dot wo wh) wh wo ≡ sample_normal_pdf a wh wo
unfolding sample_normal_pdf_at sample_normal_pdf
normal-density a wh wo = rw (g1_at_lem a wo wh, dot_comm wh wo)

-- wh takes wo to wi. From any number l where the surface is delta, else from Λ(wo)
pub metal-density : (a : Vec2) (l : Float) (wo wi : Vec3) → (λwo : Float) → λwo ≡ cond (is_delta a) l (lambda a wo) → (wh : Vec3) → wh ≡ conductor_half wo wi
    → conductor_pdf_from (sample_normal_pdf_at a λwo (dot wo wh) wh wo) (is_delta a) wo wi wh ≡ conductor_pdf a wo wi
unfolding conductor_pdf conductor_pdf_from
metal-density a l wo wi λwo e wh h = rw (e, ← h) (go (is_delta a))
  where
    go : (delta : Bool) → conductor_pdf_from (sample_normal_pdf_at a (cond delta l (lambda a wo)) (dot wo wh) wh wo) delta wo wi wh
        ≡ conductor_pdf_from (sample_normal_pdf a wh wo) delta wo wi wh
    go true = refl
    go false = rw (normal-density a wh wo)

-- and where the glass is smooth
pub glass-density : (a : Vec2) (l eta k : Float) (reflection : Bool) (wo wi : Vec3) → (λwo : Float) → λwo ≡ cond (is_smooth a eta) l (lambda a wo)
    → (ratio : Float) → ratio ≡ eta_ratio reflection wo eta → (wh : Vec3) → wh ≡ dielectric_half eta ratio wo wi
    → dielectric_pdf_from (sample_normal_pdf_at a λwo (dot wo wh) wh wo) (is_smooth a eta) eta k ratio reflection wo wi wh ≡ dielectric_pdf a eta k reflection wo wi
unfolding dielectric_pdf dielectric_pdf_from reflected_pdf passed_pdf
glass-density a l eta k reflection wo wi λwo e ratio er wh h = rw (e, ← er, ← h) (go (is_smooth a eta))
  where
    go : (smooth : Bool) → dielectric_pdf_from (sample_normal_pdf_at a (cond smooth l (lambda a wo)) (dot wo wh) wh wo) smooth eta k ratio reflection wo wi wh
        ≡ dielectric_pdf_from (sample_normal_pdf a wh wo) smooth eta k ratio reflection wo wi wh
    go true = refl
    go false = rw (normal-density a wh wo)

-- smooth glass doesn't read the density of the normal: any number l does
pub normal_unread : (n l eta k ratio : Float) (smooth reflection : Bool) (wo wi wh : Vec3)
    → dielectric_pdf_from (cond smooth l n) smooth eta k ratio reflection wo wi wh ≡ dielectric_pdf_from n smooth eta k ratio reflection wo wi wh
unfolding dielectric_pdf_from reflected_pdf passed_pdf
normal_unread n l eta k ratio true reflection wo wi wh = refl
normal_unread n l eta k ratio false reflection wo wi wh = refl

-- ---- the step of the spectra
-- on metal, whatever lies outside
pub f_metal_from_lem : (eta k : List Float) (outside : Outside) (wo wh : Vec3) (lambda : Color)
    → f_metal_from (step_of eta) eta k wo wh lambda ≡ f Metal eta k outside wo wh lambda
unfolding f_metal_from f index_on eta_at k_at
f_metal_from_lem eta k outside wo wh lambda = refl

-- on glass, with what is known of its spectra
pub f_glass_from_lem : (eta k outer : List Float) (wo wh : Vec3) (lambda : Color)
    → f_glass_from (is_constant outer) (step_of eta) eta k outer wo wh lambda ≡ f Glass eta k (medium outer) wo wh lambda
unfolding f_glass_from f quotient_from outer_from index_on eta_at outer_at k_at
f_glass_from_lem eta k outer wo wh lambda = refl

pub index_from-known : (eta outer : List Float) (wl : Float) (known : Known) → known ≡ known_on_glass eta outer
    → (n : Float) → n ≡ quotient_from known.reading.outer_constant known.reading.step eta outer wl → n ≡ index_on Glass eta (medium outer) wl
unfolding index_on eta_at outer_at quotient_from outer_from known_on_glass reading_on_glass
index_from-known eta outer wl known s n e = e ∙ ap (λ (x : Known). quotient_from x.reading.outer_constant x.reading.step eta outer wl) s

pub k_from-known : (eta k outer : List Float) (wl : Float) (known : Known) → known ≡ known_on_glass eta outer
    → (x : Float) → x ≡ k_from known.reading.step k wl → x ≡ k_at eta k wl
unfolding k_at known_on_glass reading_on_glass
k_from-known eta k outer wl known s x e = e ∙ ap (λ (y : Known). k_from y.reading.step k wl) s
