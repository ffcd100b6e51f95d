-- The GGX distribution of facets and its shadowing and masking (Walter et al. 2007, eq. 33 and 34; PBR book 8.4, with roughness x and y), in the order of operations of lumo's src/tracer/microfacet.rs. Definitions only.
-- `a` is the roughness (alpha) along x and y; wo, wi and the facet's normal wh are local, the surface's normal being Z.
use Rattle.std.specs.Prelude.{Bool, false, cond, negsuc, Float}
use Rattle.std.specs.Float.{fin}
use Rattle.std.specs.Float.Ieee.{lt, eq}
use Rattle.floats.specs.Float.{◌⊕◌, ◌⊖◌, ◌⊗◌, ◌⊘◌, f0, f1, f2, decimal, epsilon, max, abs, signum, is_infinite, powi2, powi5}
use Rattle.floats.specs.SquareRoot.{sqrt}
use Rattle.numbers.specs.SphericalUtils.{cos_theta, cos2_theta, tan2_theta, cos_phi, sin_phi}
use Rattle.numbers.specs.Vec3.{dot}
use Rattle.numbers.specs.declared.{vec2.Vec2.Vec2, vec3.Vec3.Vec3}

-- the double nearest to π
abbrev pub pi : Float
pi = fin false 884279719003555 (negsuc 47)

-- a surface so smooth that it scatters into one direction: mean roughness below 1e-3
unfoldable pub is_delta : Vec2 → Bool
is_delta a = lt ((a.x ⊕ a.y) ⊘ f2) (decimal 1 1000)

-- ---- Λ(w) = (√(1 + α² tan² θ) - 1) / 2, with α² = αx² cos² φ + αy² sin² φ
unfoldable pub alpha2 : Vec2 → Vec3 → Float
alpha2 a w = powi2 (a.x ⊗ cos_phi w) ⊕ powi2 (a.y ⊗ sin_phi w)

unfoldable pub lambda_of : Float → Float
lambda_of t = (sqrt (max (f1 ⊕ t) f0) ⊖ f1) ⊘ f2

unfoldable pub lambda : Vec2 → Vec3 → Float
lambda a w = cond (is_infinite (tan2_theta w)) f0 (lambda_of (alpha2 a w ⊗ tan2_theta w))

-- ---- χ⁺: whether wo sees the facet's front. The sign of wh's cosine is there for refraction; at EPSILON itself it is false.
unfoldable pub chi_pass : Vec3 → Vec3 → Bool
chi_pass wo wh = lt epsilon (signum (cos_theta wh) ⊗ dot wo wh ⊗ cos_theta wo)

-- ---- G1(wo) = 1 / (1 + Λ(wo)) and G(wo, wi) = 1 / (1 + Λ(wo) + Λ(wi)), summed in this order; 0 where wo doesn't see the facet
unfoldable pub masked : Bool → Float → Float
masked chi total = cond chi (f1 ⊘ total) f0

unfoldable pub g1 : Vec2 → Vec3 → Vec3 → Float
g1 a wo wh = masked (chi_pass wo wh) (f1 ⊕ lambda a wo)

unfoldable pub g : Vec2 → Vec3 → Vec3 → Vec3 → Float
g a wo wi wh = masked (chi_pass wo wh) (f1 ⊕ lambda a wo ⊕ lambda a wi)

-- the share of the light masked from neither side among that not masked from wo's: 0 if G1 is 0, else G / G1
unfoldable pub g_over_g1 : Vec2 → Vec3 → Vec3 → Vec3 → Float
g_over_g1 a wo wi wh = cond (eq (g1 a wo wh) f0) f0 (g a wo wi wh ⊘ g1 a wo wh)

-- ---- D(wh) = 1 / (π αx αy cos⁴ θ (1 + e)²), with e = tan² θ (cos² φ / αx² + sin² φ / αy²)
unfoldable pub cos4_theta : Vec3 → Float
cos4_theta w = powi2 (cos2_theta w)

unfoldable pub slope_squared : Vec2 → Vec3 → Float
slope_squared a w = tan2_theta w ⊗ (powi2 (cos_phi w ⊘ a.x) ⊕ powi2 (sin_phi w ⊘ a.y))

unfoldable pub d : Vec2 → Vec3 → Float
d a wh =
    cond (is_infinite (tan2_theta wh)) f0
    (cond (lt (cos4_theta wh) (powi2 epsilon)) f0
    (f1 ⊘ (pi ⊗ (a.x ⊗ a.y) ⊗ cos4_theta wh ⊗ powi2 (f1 ⊕ slope_squared a wh))))

-- ---- the density of the sampled normals, those that wo sees: G1(wo) D(wh) |wh · wo| / |cos θo| (Heitz 2018)
unfoldable pub sample_normal_pdf : Vec2 → Vec3 → Vec3 → Float
sample_normal_pdf a wh wo = max (g1 a wo wh ⊗ d a wh ⊗ abs (dot wh wo) ⊘ abs (cos_theta wo)) f0

-- ---- Schlick's approximation: F0 + (F90 - F0) (1 - cos θ)⁵
unfoldable pub f_schlick : Float → Float → Float → Float
f_schlick f₀ f₉₀ cosine = f₀ ⊕ (f₉₀ ⊖ f₀) ⊗ powi5 (f1 ⊖ cosine)

-- ---- Disney's diffuse term (Burley 2012), renormalised as in Frostbite (Lagarde et al. 2014)
abbrev pub half : Float
half = fin false 1 (negsuc 0)

unfoldable pub fd90 : Float → Float → Float
fd90 roughness2 cos_wh = half ⊗ roughness2 ⊕ f2 ⊗ powi2 cos_wh ⊗ roughness2

unfoldable pub energy_factor : Float → Float
energy_factor roughness2 = f1 ⊕ roughness2 ⊗ (f1 ⊘ decimal 151 100 ⊖ f1)

unfoldable pub disney_diffuse : Vec2 → Float → Float → Float → Float
disney_diffuse a cos_wo cos_wi cos_wh =
    let roughness2 = powi2 a.x in
    let f₉₀ = fd90 roughness2 cos_wh in
    f_schlick f1 f₉₀ cos_wo ⊗ f_schlick f1 f₉₀ cos_wi ⊗ energy_factor roughness2
