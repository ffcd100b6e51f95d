-- Mirror, bend and the samplers of metal and glass, in the order of operations of lumo's src/tracer/bxdf/microfacet.rs. Definitions only.
use Rattle.std.specs.Prelude.{Bool, true, false, ◌||◌, cond, Float, Option, Some, None, Result, Ok, Err}
use Rattle.std.specs.Float.Ieee.{neg, lt, eq}
use Rattle.floats.specs.Float.{◌⊕◌, ◌⊖◌, ◌⊘◌, f0, f1, f2}
use Rattle.numbers.specs.Vec3.{vec3, Z, add, sub, float_mul, div_float, negate, dot, project_onto}
use Rattle.numbers.specs.SphericalUtils.{same_hemisphere}
use Rattle.numbers.specs.declared.{vec2.Vec2.Vec2, vec3.Vec3.Vec3}
use Rattle.optics.specs.Facets.{is_delta}
use Rattle.optics.specs.Fresnel.{sin2_i, is_total, cos_i, f_at}
use Rattle.optics.specs.Sampler.{sample_normal}
pub use Rattle.optics.specs.declared.bxdf.{NoDirection.NoDirection, NoDirection.TheVariants.WrongSide, NoDirection.TheVariants.Total, Sample.Sample}

-- what a mirror or a bend answers: a direction, none, or total reflection where the Rust has `unreachable!`
pub data Outgoing : Type 0 where
  direction : Vec3 → Outgoing
  none : Outgoing
  total : Outgoing

unfoldable pub reflected : Option Vec3 → Outgoing
reflected (Some wi) = direction wi
reflected None = none

unfoldable pub refracted : Result Vec3 NoDirection → Outgoing
refracted (Ok wi) = direction wi
refracted (Err WrongSide) = none
refracted (Err Total) = total

-- ---- mirror: 2 (wo · n) n / (n · n) - wo, on wo's side of the surface
unfoldable pub mirrored : Vec3 → Vec3 → Vec3
mirrored wo n = sub (float_mul f2 (project_onto wo n)) wo

unfoldable pub reflect : Vec3 → Vec3 → Outgoing
reflect wo n = let wi = mirrored wo n in cond (same_hemisphere wi wo) (direction wi) none

-- ---- bend (Walter et al. 2007, eq. 40): -wo / η + (cos θo / η - cos θi) n, on the other side, n being the normal on wo's side
unfoldable pub bent : Float → Float → Float → Vec3 → Vec3 → Vec3
bent eta cos_o cos_i wo n = add (div_float (negate wo) eta) (float_mul (cos_o ⊘ eta ⊖ cos_i) n)

unfoldable pub across_only : Vec3 → Vec3 → Outgoing
across_only wo wi = cond (same_hemisphere wi wo) none (direction wi)

-- against the index and the normal on wo's side
unfoldable pub refract_facing : Float → Float → Vec3 → Vec3 → Outgoing
refract_facing eta cos_o wo n =
    let sin2 = sin2_i cos_o eta in
    cond (is_total sin2) total (across_only wo (bent eta cos_o (cos_i sin2) wo n))

unfoldable pub refract : Float → Vec3 → Vec3 → Outgoing
refract eta wo n =
    cond (lt (dot n wo) f0)
    (refract_facing (f1 ⊘ eta) (neg (dot n wo)) wo (negate n))
    (refract_facing eta (dot n wo) wo n)

-- ---- samplers: the direction, if there is one, and the branch that was taken
pub data Scattered : Type 0 where
  scattered : Vec3 → Bool → Scattered
  lost : Scattered
  totally : Scattered

abbrev pub sample : Vec3 → Bool → Sample
sample wi reflection = record { wi = wi; reflection = reflection }

unfoldable pub sampled : Result Sample NoDirection → Scattered
sampled (Ok s) = scattered s.wi s.reflection
sampled (Err WrongSide) = lost
sampled (Err Total) = totally

-- a mirrored or bent direction, with the branch
unfoldable pub branch : Bool → Outgoing → Scattered
branch reflection (direction wi) = scattered wi reflection
branch reflection none = lost
branch reflection total = totally

-- metal: about Z if delta, where the mirrored direction is (-x, -y, z); else about the sampled normal
unfoldable pub conductor_normal : Vec2 → Vec3 → Float → Float → Float → Vec3
conductor_normal a wo disk c s = cond (is_delta a) Z (sample_normal a wo disk c s)

unfoldable pub conductor_from : Vec2 → Vec3 → Vec3 → Scattered
conductor_from a wo wh =
    cond (is_delta a) (scattered (vec3 (neg wo.x) (neg wo.y) wo.z) true)
    (branch true (reflect wo wh))

unfoldable pub conductor_sample : Vec2 → Vec3 → Float → Float → Float → Scattered
conductor_sample a wo disk c s = conductor_from a wo (conductor_normal a wo disk c s)

-- glass that scatters into one direction: delta, or of the index 1.0
unfoldable pub is_smooth : Vec2 → Float → Bool
is_smooth a eta = eq eta f1 || is_delta a

unfoldable pub dielectric_normal : Vec2 → Float → Vec3 → Float → Float → Float → Vec3
dielectric_normal a eta wo disk c s = cond (is_smooth a eta) Z (sample_normal a wo disk c s)

-- the share of light that is reflected, F, and the rest
unfoldable pub rest : Float → Float
rest F = f1 ⊖ F

-- the sampler's test: u < F / (F + (1 - F))
unfoldable pub reflects : Float → Float → Bool
reflects u F = lt u (F ⊘ (F ⊕ rest F))

unfoldable pub dielectric_from : Float → Float → Float → Vec3 → Vec3 → Scattered
dielectric_from eta F u wo wh =
    cond (reflects u F) (branch true (reflect wo wh)) (branch false (refract eta wo wh))

-- eta and k at the leading wavelength
unfoldable pub dielectric_sample : Vec2 → Float → Float → Vec3 → Float → Float → Float → Float → Scattered
dielectric_sample a eta k wo u disk c s =
    let wh = dielectric_normal a eta wo disk c s in
    dielectric_from eta (f_at wo wh eta k) u wo wh
