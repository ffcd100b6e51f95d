-- A bounce on metal or glass: its checks, what is sampled, and the weight of each wavelength (document 01, "Bounce"). Definitions only.
-- `lambda` is the path's wavelengths that are left: on glass whose eta doesn't count as constant, two to four have ended.
use Rattle.std.specs.Prelude.{is_nan, Float}
use mathlib.Core.{Bool.Bool, Bool.cond, List.List}
use Rattle.std.specs.Float.Ieee.{le, eq}
use Rattle.floats.specs.Float.{◌⊗◌, f0, f1, is_infinite}
use Rattle.numbers.specs.SphericalUtils.{tan2_theta}
use Rattle.numbers.specs.Onb.{basis, to_local}
use Rattle.numbers.specs.DenseSpectrum.{terminated}
use Rattle.numbers.specs.declared.{vec2.Vec2.Vec2, vec3.Vec3.Vec3}
use Rattle.optics.specs.Color.{all4}
use Rattle.optics.specs.Surface.{Outside, Microsurface, index_at, k_at, constant_eta}
use Rattle.optics.specs.Facets.{is_delta, g_over_g1}
use Rattle.optics.specs.Fresnel.{f_at}
use Rattle.optics.specs.Bxdf.{Scattered, scattered, lost, totally, conductor_normal, conductor_from, is_smooth, dielectric_normal, dielectric_from}
use Rattle.numbers.specs.Refusal.{Verdict, ◌then◌, refuse}
use Rattle.numbers.specs.Checked.{check_direction}
use Rattle.optics.specs.Check.{check_surface, check_random, check_circle_pair}
use Rattle.optics.specs.declared.{color.Color.Color, microfacet.Kind.Kind, microfacet.Kind.TheVariants.Metal, microfacet.Kind.TheVariants.Glass}
pub use Rattle.path.specs.declared.records.Bounce.{Bounce}
use Rattle.path.specs.Path.{Path, path, each2, each3, weighed, leading, terminate, is_path_lambda, is_power, is_filter}

-- ---- the checks, in 01's order ("At the counter")
-- all but the surface's
unfoldable pub check_rest : Path → Bounce → Verdict
check_rest p b =
    refuse 4 (is_path_lambda p.lambda)
    then refuse 10 (all4 is_power p.power)
    then check_direction b.wo
    then check_direction b.normal
    then check_random b.u
    then check_random b.disk
    then check_circle_pair b.c b.s
    then refuse 8 (all4 is_filter b.ks)
    then refuse 8 (all4 is_filter b.tf)

unfoldable pub check_bounce : Path → Microsurface → Bounce → Verdict
check_bounce p m b = check_surface m then check_rest p b

-- ---- wavelengths two to four end on glass whose eta doesn't count as constant
unfoldable pub left_on_glass : List Float → Outside → Color → Color
left_on_glass eta outside lambda = cond (constant_eta eta outside) lambda (terminate lambda)

unfoldable pub left_on : Kind → List Float → Outside → Color → Color
left_on Metal eta outside lambda = lambda
left_on Glass eta outside lambda = left_on_glass eta outside lambda

unfoldable pub lambda_on : Microsurface → Color → Color
lambda_on m lambda = left_on m.kind m.eta m.outside lambda

-- ---- what is sampled (lumo's `BSDF::sample`): wo in the basis of the normal, the facet's normal, F at the leading wavelength
unfoldable pub local_wo : Bounce → Vec3
local_wo b = to_local (basis b.normal) b.wo

unfoldable pub leading_index : Microsurface → Color → Float
leading_index m lambda = index_at m (leading lambda)

unfoldable pub facet_of : Kind → Microsurface → Color → Bounce → Vec3
facet_of Metal m lambda b = conductor_normal m.roughness (local_wo b) b.disk b.c b.s
facet_of Glass m lambda b = dielectric_normal m.roughness (leading_index m lambda) (local_wo b) b.disk b.c b.s

unfoldable pub facet : Microsurface → Color → Bounce → Vec3
facet m lambda b = facet_of m.kind m lambda b

-- F at a wavelength, for local wo and the facet's normal
unfoldable pub fresnel_at : Microsurface → Color → Bounce → Float → Float
fresnel_at m lambda b wavelength =
    f_at (local_wo b) (facet m lambda b) (index_at m wavelength) (k_at m.eta m.k wavelength)

unfoldable pub share : Microsurface → Color → Bounce → Float
share m lambda b = fresnel_at m lambda b (leading lambda)

-- a backface of metal loses the light
unfoldable pub scatter_on : Kind → Microsurface → Color → Bounce → Scattered
scatter_on Metal m lambda b = cond b.backface lost (conductor_from m.roughness (local_wo b) (facet m lambda b))
scatter_on Glass m lambda b =
    dielectric_from (leading_index m lambda) (share m lambda b) b.u (local_wo b) (facet m lambda b)

unfoldable pub scatter : Microsurface → Color → Bounce → Scattered
scatter m lambda b = scatter_on m.kind m lambda b

-- ---- the weight of a wavelength (ours)
-- whether light leaves exactly along the wall: tan² of wi is infinite
unfoldable pub along_wall : Vec3 → Bool
along_wall wi = is_infinite (tan2_theta wi)

-- q, the share of the light that the facets let through to wi: 1 where there is one direction only, else G/G1, but none along the wall: Λ is 0 there, and G/G1 would have the facets open (02 (v))
unfoldable pub shadowing : Bool → Vec2 → Vec3 → Vec3 → Vec3 → Float
shadowing one a wo wi wh = cond one f1 (cond (along_wall wi) f0 (g_over_g1 a wo wi wh))

-- delta, and glass whose index at the leading wavelength is 1.0
unfoldable pub one_direction : Kind → Microsurface → Color → Bool
one_direction Metal m lambda = is_delta m.roughness
one_direction Glass m lambda = is_smooth m.roughness (leading_index m lambda)

unfoldable pub shadowing_on : Microsurface → Color → Bounce → Vec3 → Float
shadowing_on m lambda b wi =
    shadowing (one_direction m.kind m lambda) m.roughness (local_wo b) wi (facet m lambda b)

-- 0 if F is NaN, F if it is at most 1, else 1.0
unfoldable pub metal_share : Float → Float
metal_share F = cond (is_nan F) f0 (cond (le F f1) F f1)

-- the filter of the branch that was taken; metal's reflects its share of F besides
unfoldable pub metal_filter : Float → Float → Float
metal_filter ks F = ks ⊗ metal_share F

unfoldable pub filter : Kind → Bool → Float → Float → Float → Float
filter Metal reflection F ks tf = metal_filter ks F
filter Glass reflection F ks tf = cond reflection ks tf

-- a wavelength of 0 weighs 0
unfoldable pub weight : Float → Float → Float → Float
weight wavelength filter q = cond (eq wavelength terminated) f0 (filter ⊗ q)

unfoldable pub weights_of : Color → Color → Float → Color
weights_of lambda filter q = each2 (λ wl x. weight wl x q) lambda filter

-- and so does each if the light is lost
unfoldable pub weight_from : Scattered → Microsurface → Color → Bounce → Float → Float → Float → Float
weight_from lost m lambda b wavelength ks tf = f0
weight_from totally m lambda b wavelength ks tf = f0
weight_from (scattered wi reflection) m lambda b wavelength ks tf =
    weight wavelength (filter m.kind reflection (fresnel_at m lambda b wavelength) ks tf) (shadowing_on m lambda b wi)

unfoldable pub weights_from : Scattered → Microsurface → Color → Bounce → Color
weights_from s m lambda b = each3 (weight_from s m lambda b) lambda b.ks b.tf

unfoldable pub weights : Microsurface → Color → Bounce → Color
weights m lambda b = weights_from (scatter m lambda b) m lambda b

-- ---- the path after a bounce that isn't refused
-- wavelengths end, then each power becomes itself times the weight at its wavelength
unfoldable pub advanced : Path → Microsurface → Bounce → Path
advanced p m b =
    let lambda = lambda_on m p.lambda in
    path lambda (weighed p.power (weights m lambda b))
