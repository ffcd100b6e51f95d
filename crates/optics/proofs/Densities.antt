-- The densities of the samplers are never below 0: each is a NaN, the infinity, or finite and from 0 on.
-- Proved: on metal for any floats at all (`conductor_not_below`), on glass for any directions and flags, with an index in range and no
-- absorption (`dielectric_not_below`); so for a surface and a wavelength that the counter accepts, a density that is finite is not
-- below 0 (`density_not_below`). Nothing is asked of the directions: a NaN or an overflow inside gives a NaN or the infinity. By Signs,
-- and by AnyCosine for the shares.
use Rattle.std.proofs.Common.{◌≡◌, refl, sym, subst, inl, inr, Bool, true, false, cond, T, Float}
use lib.Ieee.{nan, Format, binary64, add, sub, neg, le, lt, eq, fits}
use Rattle.numbers.proofs.dense_spectrum.Interpolation.{Index, AllFit}
use Rattle.floats.specs.Float.{◌⊕◌, ◌⊖◌, ◌⊗◌, ◌⊘◌, f0, f1, epsilon, abs, powi2, is_finite}
use Rattle.numbers.specs.Vec3.{dot}
use Rattle.numbers.specs.SphericalUtils.{cos_theta, same_hemisphere}
use Rattle.numbers.specs.DenseSpectrum.{is_wavelength}
use Rattle.numbers.specs.declared.vec2.Vec2.{Vec2}
use Rattle.numbers.specs.declared.vec3.Vec3.{Vec3}
use Rattle.optics.specs.Facets.{is_delta, g1, d, sample_normal_pdf}
use Rattle.optics.specs.Fresnel.{f_at}
use Rattle.optics.specs.Surface.{Microsurface, eta_holds, k_holds, outer_holds, index_at, k_at}
use Rattle.optics.specs.Bxdf.{is_smooth, rest}
use Rattle.optics.specs.Density.{f4, at_z, mirrored_pdf, bent_pdf, conductor_half, conductor_pdf_from, conductor_pdf, eta_ratio, dielectric_half, is_discarded, reflected_pdf, passed_pdf, dielectric_pdf_from, dielectric_pdf, pdf_of, pdf}
use Rattle.optics.specs.declared.microfacet.Kind.{Kind}
use Rattle.optics.specs.declared.microfacet.Kind.TheVariants.{Metal, Glass}
use Rattle.optics.proofs.AnyCosine.{NanOrShare, fresnel_any}
use Rattle.floats.proofs.Rounding.Signs.{Plus, NotNegative, plus_not_below, abs-plus, mul-plus, square-plus, mul_not_below, div_not_below, max_not_below, not_below_le, share_not_below}
use Rattle.optics.proofs.Glass.{shares_of, dot-fits, share-fits}
use Rattle.optics.proofs.Spectra.{glass-k-zero}
use Rattle.optics.proofs.Outer.{OuterFit, index_in}

abbrev B : Format
B = binary64

-- ---- the shares: both from 0 on, and their sum of clear sign
record SharesSigns (F : Float) : Type 0 where
  first : NotNegative F
  second : NotNegative (rest F)
  whole : Plus (F ⊕ rest F)

nan_signs : SharesSigns nan
unfolding rest add sub neg
nan_signs = record { first = tt; second = tt; whole = tt }

signs_of : (F : Float) → T (fits B F) → NanOrShare F → SharesSigns F
signs_of F f (inl e) = subst (λ (x : Float). SharesSigns x) (sym e) nan_signs
signs_of F f (inr h) =
    let s = shares_of F f h in
    record {
      first = share_not_below F h;
      second = share_not_below (rest F) s.second;
      whole = subst (λ (x : Float). Plus x) (sym s.whole) refl;
    }

-- ---- the densities
f0_not_below : NotNegative f0
f0_not_below = inl refl

at_z_not_below : (wh : Vec3) (x : Float) → NotNegative x → NotNegative (at_z wh x)
unfolding at_z
at_z_not_below wh x h = go (lt (f1 ⊖ cos_theta wh) epsilon)
  where
    go : (b : Bool) → NotNegative (cond b x f0)
    go true = h
    go false = f0_not_below

-- nothing is asked of Λ(wo)
sampled_not_below : (a : Vec2) (wh wo : Vec3) → NotNegative (sample_normal_pdf a wh wo)
unfolding sample_normal_pdf
sampled_not_below a wh wo = max_not_below (g1 a wo wh ⊗ d a wh ⊗ abs (dot wh wo) ⊘ abs (cos_theta wo))

-- n is the density of the normal
module _ (n : Float) (h : NotNegative n) (wo wh : Vec3) where
  mirrored_not_below : NotNegative (mirrored_pdf n wo wh)
  unfolding mirrored_pdf
  mirrored_not_below =
      let c = abs (dot wo wh) in
      div_not_below n (f4 ⊗ c) h (mul-plus f4 c refl (abs-plus (dot wo wh)))

  bent_not_below : (ratio : Float) (wi : Vec3) → NotNegative (bent_pdf n ratio wo wi wh)
  unfolding bent_pdf powi2
  bent_not_below ratio wi =
      let c = abs (dot wi wh) in
      let v = dot wi wh ⊕ dot wo wh ⊘ ratio in
      div_not_below (n ⊗ c) (v ⊗ v) (mul_not_below n c h (plus_not_below c (abs-plus (dot wi wh)))) (square-plus v)

pub conductor_not_below : (a : Vec2) (wo wi : Vec3) → NotNegative (conductor_pdf a wo wi)
unfolding conductor_pdf conductor_pdf_from
conductor_not_below a wo wi = go (same_hemisphere wi wo) (is_delta a)
  where
    wh : Vec3
    wh = conductor_half wo wi

    n : Float
    n = sample_normal_pdf a wh wo

    go : (same delta : Bool) → NotNegative (cond same (cond delta (at_z wh f1) (mirrored_pdf n wo wh)) f0)
    go true true = at_z_not_below wh f1 (inl refl)
    go true false = mirrored_not_below n (sampled_not_below a wh wo) wo wh
    go false delta = f0_not_below

reflected_not_below : (n : Float) (smooth : Bool) (F : Float) (wo wh : Vec3) → NotNegative n → SharesSigns F → NotNegative (reflected_pdf n smooth F wo wh)
unfolding reflected_pdf
reflected_not_below n true F wo wh h s = let whole = F ⊕ rest F in at_z_not_below wh (F ⊘ whole) (div_not_below F whole s.first s.whole)
reflected_not_below n false F wo wh h s =
    let m = mirrored_pdf n wo wh in
    div_not_below (m ⊗ F) (F ⊕ rest F) (mul_not_below m F (mirrored_not_below n h wo wh) s.first) s.whole

passed_not_below : (n : Float) (smooth : Bool) (ratio F : Float) (wo wi wh : Vec3) → NotNegative n → SharesSigns F
    → NotNegative (passed_pdf n smooth ratio F wo wi wh)
unfolding passed_pdf
passed_not_below n true ratio F wo wi wh h s =
    let whole = F ⊕ rest F in
    at_z_not_below wh (rest F ⊘ whole) (div_not_below (rest F) whole s.second s.whole)
passed_not_below n false ratio F wo wi wh h s =
    let m = bent_pdf n ratio wo wi wh in
    div_not_below (m ⊗ rest F) (F ⊕ rest F) (mul_not_below m (rest F) (bent_not_below n h wo wh ratio wi) s.second) s.whole

nan_or-share : (wo wh : Vec3) (eta k : Float) → Index eta → T (eq k f0) → NanOrShare (f_at wo wh eta k)
unfolding f_at
nan_or-share wo wh eta k i z = fresnel_any (dot wo wh) eta k (dot-fits wo wh) i z

from_not_below : (n : Float) (smooth : Bool) (eta k ratio : Float) (reflection : Bool) (wo wi wh : Vec3) → NotNegative n → Index eta → T (eq k f0)
    → NotNegative (dielectric_pdf_from n smooth eta k ratio reflection wo wi wh)
unfolding dielectric_pdf_from
from_not_below n smooth eta k ratio reflection wo wi wh h i z = go (is_discarded (dot wo wh) (dot wi wh) wo wi) reflection
  where
    F : Float
    F = f_at wo wh eta k

    s : SharesSigns F
    s = signs_of F (share-fits wo wh eta k) (nan_or-share wo wh eta k i z)

    go : (discarded reflection : Bool)
        → NotNegative (cond discarded f0 (cond reflection (reflected_pdf n smooth F wo wh) (passed_pdf n smooth ratio F wo wi wh)))
    go true reflection = f0_not_below
    go false true = reflected_not_below n smooth F wo wh h s
    go false false = passed_not_below n smooth ratio F wo wi wh h s

pub dielectric_not_below : (a : Vec2) (eta k : Float) (reflection : Bool) (wo wi : Vec3) → Index eta → T (eq k f0)
    → NotNegative (dielectric_pdf a eta k reflection wo wi)
unfolding dielectric_pdf
dielectric_not_below a eta k reflection wo wi i z =
    let ratio = eta_ratio reflection wo eta in
    let wh = dielectric_half eta ratio wo wi in
    from_not_below (sample_normal_pdf a wh wo) (is_smooth a eta) eta k ratio reflection wo wi wh (sampled_not_below a wh wo) i z

-- ---- the laws
pub density_of_not_below : (kind : Kind) (a : Vec2) (eta k : Float) (reflection : Bool) (wo wi : Vec3)
    → (kind ≡ Glass → Index eta × T (eq k f0))
    → NotNegative (pdf_of kind a eta k reflection wo wi)
unfolding pdf_of
density_of_not_below Metal a eta k reflection wo wi h = go reflection
  where
    go : (b : Bool) → NotNegative (cond b (conductor_pdf a wo wi) f0)
    go true = conductor_not_below a wo wi
    go false = f0_not_below
density_of_not_below Glass a eta k reflection wo wi h = dielectric_not_below a eta k reflection wo wi (h refl).0 (h refl).1

pub density_not_below : (m : Microsurface) (wo wi : Vec3) (reflection : Bool) (lambda : Float) → AllFit m.eta → AllFit m.k → OuterFit m.outside
    → T (fits B lambda)
    → T (eta_holds m.eta) → T (k_holds m.kind m.eta m.k) → T (outer_holds m.kind m.eta m.outside) → T (is_wavelength lambda)
    → T (is_finite (pdf m wo wi reflection lambda)) → T (le f0 (pdf m wo wi reflection lambda))
unfolding pdf
density_not_below m wo wi reflection lambda fits-eta fits-k fits-outer fits-lambda eta_holds_lem k-holds outer_holds_lem w f =
    not_below_le (pdf m wo wi reflection lambda) (density_of_not_below m.kind m.roughness eta k reflection wo wi on-glass) f
  where
    eta : Float
    eta = index_at m lambda

    k : Float
    k = k_at m.eta m.k lambda

    on-glass : m.kind ≡ Glass → Index eta × T (eq k f0)
    on-glass e = (
      index_in m lambda fits-eta fits-outer eta_holds_lem outer_holds_lem fits-lambda w,
      glass-k-zero m.eta m.k lambda fits-k (subst (λ (kind : Kind). T (k_holds kind m.eta m.k)) e k-holds) fits-lambda w,
    )
