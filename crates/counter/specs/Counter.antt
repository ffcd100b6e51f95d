-- What the calls at the counter answer: the refusals of document 01 in its order ("At the counter"), then the value. Definitions only.
use mathlib.Core.{Bool.Bool, List.List}
use Rattle.std.specs.Prelude.{Float}
use Rattle.floats.specs.Float.{is_finite}
use Rattle.numbers.specs.Refusal.{refuse, ◌then◌, Answer, refused, given, ◌▷◌}
use Rattle.numbers.specs.Checked.{check_direction, check_wavelength, check_lookup}
use Rattle.numbers.specs.declared.vec3.Vec3.{Vec3}
use Rattle.optics.specs.declared.{color.Color.Color, microfacet.Kind.Kind, microfacet.Surface.Surface}
use Rattle.optics.specs.Surface.{Outside, Microsurface, is_roughness_given, index_at, k_at, surface}
use Rattle.optics.specs.Check.{check_spectra, check_surface, check_eta, check_lookups, check_random, check_circle_pair}
use Rattle.optics.specs.Facets as Facets
use Rattle.optics.specs.Fresnel as Fresnel
use Rattle.optics.specs.Sampler as Sampler
use Rattle.optics.specs.Bxdf as Bxdf
use Rattle.optics.specs.Bxdf.{Outgoing}
use Rattle.optics.specs.Density as Density

-- an answer with its value read otherwise: a mirror's and a bend's as an `Outgoing`
abbrev pub map_answer : {A B : Type 0} → (A → B) → Answer A → Answer B
map_answer f (refused n) = refused n
map_answer f (given a) = given (f a)

-- ---- making a surface
unfoldable pub make_surface : Kind → Float → List Float → List Float → Outside → Answer Surface
make_surface kind r eta k outside =
    refuse 1 (is_roughness_given r) then check_spectra kind eta k outside
    ▷ given (surface kind r)

-- ---- facet terms
unfoldable pub is_delta : Microsurface → Answer Bool
is_delta m = check_surface m ▷ given (Facets.is_delta m.roughness)

unfoldable pub lambda : Microsurface → Vec3 → Answer Float
lambda m w = check_surface m then check_direction w ▷ given (Facets.lambda m.roughness w)

unfoldable pub chi_pass : Microsurface → Vec3 → Vec3 → Answer Bool
chi_pass m wo wh = check_surface m then check_direction wo then check_direction wh ▷ given (Facets.chi_pass wo wh)

unfoldable pub g1 : Microsurface → Vec3 → Vec3 → Answer Float
g1 m wo wh = check_surface m then check_direction wo then check_direction wh ▷ given (Facets.g1 m.roughness wo wh)

unfoldable pub g : Microsurface → Vec3 → Vec3 → Vec3 → Answer Float
g m wo wi wh =
    check_surface m then check_direction wo then check_direction wi then check_direction wh
    ▷ given (Facets.g m.roughness wo wi wh)

unfoldable pub d : Microsurface → Vec3 → Answer Float
d m wh = check_surface m then check_direction wh ▷ given (Facets.d m.roughness wh)

-- any floats, so it refuses only for its surface
unfoldable pub disney_diffuse : Microsurface → Float → Float → Float → Answer Float
disney_diffuse m cos_wo cos_wi cos_wh =
    check_surface m ▷ given (Facets.disney_diffuse m.roughness cos_wo cos_wi cos_wh)

-- ---- Fresnel
unfoldable pub f_at : Microsurface → Vec3 → Vec3 → Float → Answer Float
f_at m wo wh lambda =
    check_surface m then check_direction wo then check_direction wh then check_lookup lambda
    ▷ given (Fresnel.f_at wo wh (index_at m lambda) (k_at m.eta m.k lambda))

unfoldable pub f : Microsurface → Vec3 → Vec3 → Color → Answer Color
f m wo wh lambda =
    check_surface m then check_direction wo then check_direction wh then check_lookups lambda
    ▷ given (Fresnel.f m.kind m.eta m.k m.outside wo wh lambda)

-- ---- sampler, mirror, bend
unfoldable pub sample_normal : Microsurface → Vec3 → Float → Float → Float → Answer Vec3
sample_normal m wo disk c s =
    check_surface m then check_direction wo then check_random disk then check_circle_pair c s
    ▷ given (Sampler.sample_normal m.roughness wo disk c s)

unfoldable pub reflect : Vec3 → Vec3 → Answer Outgoing
reflect wo n = check_direction wo then check_direction n ▷ given (Bxdf.reflect wo n)

unfoldable pub refract : Float → Vec3 → Vec3 → Answer Outgoing
refract eta wo n =
    check_eta eta then check_direction wo then check_direction n
    ▷ given (Bxdf.refract eta wo n)

-- ---- density: 4 for the wavelength 0 too; 9 for a value that isn't finite
unfoldable pub finite_only : Float → Answer Float
finite_only x = refuse 9 (is_finite x) ▷ given x

unfoldable pub pdf : Microsurface → Vec3 → Vec3 → Bool → Float → Answer Float
pdf m wo wi reflection lambda =
    check_surface m then check_direction wo then check_direction wi then check_wavelength lambda
    ▷ finite_only (Density.pdf m wo wi reflection lambda)
