-- Every starred sample of document 01, one conjunction (`all_samples` proves `AllSamples` of specs/Samples.antt).
-- Those of whole bounces go by stages. Each leaf (local wo, a reading of a spectrum, a mirrored or a bent direction, F, a density) is
-- computed from its definition; a stage puts leaves together by `rw`, for any roughness and spectra that are delta and read so.
use Rattle.std.proofs.Common.{◌≡◌, Some, None, ℕ, zero, suc, Bool, true, false, List, [], replicate, pos, refl}
use mathlib.Core.Bool.{or-true}
use lib.Ieee.{Float, fin, binary64, add, sub, mul, div, neg, lt, le, eq, is_nan, of_int, to_unsigned}
use Rattle.floats.specs.Float.{f0, f1, f2, f_1, decimal, epsilon, within, max, signum, is_finite}
use Rattle.floats.specs.SquareRoot.{square_root}
use Rattle.numbers.specs.Vec2.{splat}
use Rattle.numbers.specs.Vec3.{vec3, Z, dot, float_mul, div_float, negate, length_squared, length, normalize, project_onto, is_direction}
use Rattle.numbers.specs.Vec3 as V3
use Rattle.numbers.specs.Onb.{slope, skew, basis, to_local, to_world}
use Rattle.numbers.specs.SphericalUtils.{cos_theta, same_hemisphere}
use Rattle.numbers.specs.DenseSpectrum.{step_of, ceiling, upper_point, upper_lambda, upper_weight, interpolate, sample_one_at, every, is_constant, all_within, is_wavelength, is_lookup_wavelength, is_table, one_spacing}
use Rattle.numbers.specs.declared.vec2.Vec2.{Vec2}
use Rattle.numbers.specs.declared.vec3.Vec3.{Vec3}
use Rattle.numbers.proofs.Samples as Numbers
use Rattle.optics.specs.Surface.{Outside, medium, Microsurface, roughness_min, is_roughness, roughness_holds, eta_min, eta_max, eta_holds, k_min, k_max, all_zero, k_entries_hold, k_holds, outer_holds, eta_from, k_from, eta_at, k_at, outer_at, quotient, index_on, index_at, constant_eta, surface}
use Rattle.optics.specs.Facets.{half, is_delta}
use Rattle.optics.specs.Fresnel.{sin2_i, is_total, cos_i, fresnel, f_at}
use Rattle.optics.specs.Bxdf.{scattered, direction, mirrored, reflect, bent, across_only, refract_facing, refract, branch, conductor_normal, conductor_from, is_smooth, dielectric_normal, rest, reflects, dielectric_from}
use Rattle.optics.specs.Density.{on_z_side, at_z, conductor_half, conductor_pdf_from, conductor_pdf, eta_ratio, dielectric_half, is_discarded, reflected_pdf, passed_pdf, dielectric_pdf_from, dielectric_pdf, pdf_of, pdf}
use Rattle.numbers.specs.Refusal.{accepted}
use Rattle.numbers.specs.Checked.{check_direction}
use Rattle.optics.specs.Check.{check_spectra, check_surface, is_random, check_random, is_circle_pair, check_circle_pair}
use Rattle.optics.specs.Samples.{quarter, three_quarters}
use Rattle.optics.specs.declared.microfacet.Kind.TheVariants.{Metal, Glass}
use Rattle.optics.proofs.Samples as Optics
use Rattle.path.specs.Path.{path, leading, is_path_lambda, is_power, is_filter, weighed}
use Rattle.path.specs.Bounce.{advanced, check_bounce, check_rest, left_on_glass, left_on, lambda_on, local_wo, leading_index, facet_of, facet, fresnel_at, share, scatter_on, scatter, one_direction, shadowing, shadowing_on, metal_share, metal_filter, filter, weight, weight_from, weights_from, weights}
use Rattle.path.specs.Answer.{two_shares, reflected, passed, density_of, density, shares_on, shares, branch_of, worked, on_surface, answered, bounce}
use Rattle.path.specs.Samples.{all, grid, constant, delta_metal, delta_glass, along, Samples, AllSamples}

-- ---- local wo is Z
local : (u : Float) → local_wo (along u) ≡ Z
unfolding local_wo to_local basis slope skew signum dot add sub mul div neg
local u = refl

-- ---- the grid's wavelengths, and a constant spectrum there
abbrev l0 : Float
l0 = grid.s0

abbrev l1 : Float
l1 = grid.s1

abbrev l2 : Float
l2 = grid.s2

abbrev l3 : Float
l3 = grid.s3

-- what is read of a spectrum is x at each of them
pub record Reads (at : Float → Float) (x : Float) : Type 0 where
  pub r0 : at l0 ≡ x
  pub r1 : at l1 ≡ x
  pub r2 : at l2 ≡ x
  pub r3 : at l3 ≡ x

reads_eta : (x : Float) → Reads (eta_at (constant x)) x
unfolding eta_at eta_from step_of sample_one_at upper_point upper_lambda upper_weight ceiling interpolate add sub mul div lt eq of_int to_unsigned
reads_eta x = record { r0 = refl; r1 = refl; r2 = refl; r3 = refl }

pub reads_k : (x y : Float) → Reads (k_at (constant x) (constant y)) y
unfolding k_at k_from step_of sample_one_at upper_point upper_lambda upper_weight ceiling interpolate add sub mul div lt eq of_int to_unsigned
reads_k x y = record { r0 = refl; r1 = refl; r2 = refl; r3 = refl }

-- the samples' glass has eta 3
abbrev f3 : Float
f3 = fin false 3 (pos 0)

-- and a spectrum of ones outside: the index, eta divided by that, is eta
abbrev pub ones : Outside
ones = medium (constant f1)

pub reads_index : (x : Float) → div binary64 x f1 ≡ x → Reads (index_on Glass (constant x) ones) x
unfolding index_on quotient outer_at eta_at eta_from is_constant every step_of sample_one_at upper_point upper_lambda upper_weight ceiling interpolate add sub mul div lt eq of_int to_unsigned
reads_index x h = record { r0 = h; r1 = h; r2 = h; r3 = h }

-- ---- the checks
every-replicate : (p : Float → Bool) (x : Float) → p x ≡ true → (n : ℕ) → every p (replicate n x) ≡ true
unfolding every
every-replicate p x h zero = refl
every-replicate p x h (suc n) = rw (h, every-replicate p x h n)

-- roughness 0, raised to 1e-5
abbrev smooth : Vec2
smooth = splat (max f0 roughness_min)

smooth-holds : roughness_holds smooth ≡ true
unfolding roughness_holds is_roughness max roughness_min decimal within is_nan lt le
smooth-holds = refl

smooth_delta : is_delta smooth ≡ true
unfolding is_delta max roughness_min decimal is_nan lt add div
smooth_delta = refl

length-holds : (x : Float) → is_table (constant x) ≡ true
unfolding is_table
length-holds x = refl

spacing-holds : (x y : Float) → one_spacing (constant x) (constant y) ≡ true
unfolding one_spacing
spacing-holds x y = refl

pub eta_holds_lem : (x : Float) → within eta_min eta_max x ≡ true → eta_holds (constant x) ≡ true
unfolding eta_holds all_within
eta_holds_lem x h = rw (length-holds x, every-replicate (within eta_min eta_max) x h 95)

metal-k_holds : (x : Float) → k_holds Metal (constant x) (constant f2) ≡ true
unfolding k_holds k_entries_hold all_within within k_min decimal le
metal-k_holds x = rw (length-holds f2, spacing-holds x f2, every-replicate (within k_min k_max) f2 refl 95, or-true)

pub glass-k_holds : (x : Float) → k_holds Glass (constant x) (constant f0) ≡ true
unfolding k_holds k_entries_hold all_zero all_within within le
glass-k_holds x = rw (length-holds f0, spacing-holds x f0, every-replicate (within f0 f0) f0 refl 95)

metal-outer_holds : (eta : List Float) (outside : Outside) → outer_holds Metal eta outside ≡ true
unfolding outer_holds
metal-outer_holds eta outside = refl

pub glass-outer_holds : (x : Float) → outer_holds Glass (constant x) ones ≡ true
unfolding outer_holds all_within within eta_min decimal le
glass-outer_holds x = rw (length-holds f1, spacing-holds x f1, every-replicate (within eta_min eta_max) f1 refl 95)

pub surface-holds :
    (m : Microsurface) → roughness_holds m.roughness ≡ true → eta_holds m.eta ≡ true → k_holds m.kind m.eta m.k ≡ true →
    outer_holds m.kind m.eta m.outside ≡ true → check_surface m ≡ accepted
unfolding check_surface check_spectra
surface-holds m r e k o = rw (r, e, k, o)

disk-holds : is_random f0 ≡ true
unfolding is_random lt le
disk-holds = refl

-- the rest of them, for powers x and the number u
checks :
    (m : Microsurface) (x u : Float) → check_surface m ≡ accepted → is_power x ≡ true → is_random u ≡ true →
    check_bounce (path grid (all x)) m (along u) ≡ accepted
unfolding check_bounce check_rest is_path_lambda is_wavelength is_lookup_wavelength is_filter check_direction is_direction length_squared dot check_random check_circle_pair is_circle_pair decimal within add mul lt le eq
checks m x u s p r = rw (s, p, r, disk-holds)

-- ---- metal
abbrev metal : Vec2 → List Float → List Float → Outside → Microsurface
metal a eta k outside = record { kind = Metal; roughness = a; eta = eta; k = k; outside = outside }

-- mirrored about Z, local
abbrev Z' : Vec3
Z' = vec3 (fin true 0 (pos 0)) (fin true 0 (pos 0)) f1

-- back in the world
world_Z' : to_world (basis Z) Z' ≡ Z
unfolding to_world basis slope skew signum V3.add float_mul add sub mul div neg
world_Z' = refl

metal-weight-half : mul binary64 (mul binary64 f1 (metal_share half)) f1 ≡ half
unfolding metal_share is_nan le mul
metal-weight-half = refl

metal-density : (a : Vec2) → is_delta a ≡ true → conductor_pdf a Z Z' ≡ f1
unfolding conductor_pdf conductor_pdf_from same_hemisphere cos_theta conductor_half on_z_side at_z normalize length length_squared dot div_float negate V3.add epsilon decimal max is_nan square_root add sub mul div neg lt
metal-density a h = rw h

module _ (a : Vec2) (eta k : List Float) (outside : Outside) (delta : is_delta a ≡ true) (eta-1 : Reads (eta_at eta) f1) (k_2 : Reads (k_at eta k) f2) where
  metal-facet : (u : Float) → facet (metal a eta k outside) grid (along u) ≡ Z
  unfolding facet facet_of conductor_normal
  metal-facet u = rw delta

  metal-fresnel : (u l : Float) → eta_at eta l ≡ f1 → k_at eta k l ≡ f2 → fresnel_at (metal a eta k outside) grid (along u) l ≡ half
  unfolding fresnel_at index_at index_on
  metal-fresnel u l p q = rw (local u, metal-facet u, p, q, (Optics.samples).f_at_complex)

  metal-scatter : (u : Float) → scatter (metal a eta k outside) grid (along u) ≡ scattered Z' true
  unfolding scatter scatter_on conductor_from neg
  metal-scatter u = rw (local u, delta)

  metal-shadowing : (u : Float) (wi : Vec3) → shadowing_on (metal a eta k outside) grid (along u) wi ≡ f1
  unfolding shadowing_on shadowing one_direction
  metal-shadowing u wi = rw delta

  metal-weight :
      (u l : Float) → eq l f0 ≡ false → eta_at eta l ≡ f1 → k_at eta k l ≡ f2 →
      weight_from (scattered Z' true) (metal a eta k outside) grid (along u) l f1 f1 ≡ half
  unfolding weight_from weight filter metal_filter
  metal-weight u l z p q = rw (z, metal-fresnel u l p q, metal-shadowing u Z', metal-weight-half)

  metal-weights : (u : Float) → weights (metal a eta k outside) grid (along u) ≡ all half
  unfolding weights weights_from eq
  metal-weights u =
      rw (
        metal-scatter u,
        metal-weight u l0 refl eta-1.r0 k_2.r0,
        metal-weight u l1 refl eta-1.r1 k_2.r1,
        metal-weight u l2 refl eta-1.r2 k_2.r2,
        metal-weight u l3 refl eta-1.r3 k_2.r3,
      )

  metal-bounce :
      (x y u : Float) → check_bounce (path grid (all x)) (metal a eta k outside) (along u) ≡ accepted → mul binary64 x half ≡ y →
      bounce (path grid (all x)) (metal a eta k outside) (along u) ≡ reflected Z (Some f1) None (path grid (all y))
  unfolding bounce answered on_surface worked branch_of advanced lambda_on left_on weighed density density_of is_finite pdf pdf_of shares shares_on
  metal-bounce x y u ok p = rw (ok, metal-scatter u, metal-weights u, local u, world_Z', metal-density a delta, p)

-- ---- glass
abbrev glass : Vec2 → List Float → List Float → Outside → Microsurface
glass a eta k outside = record { kind = Glass; roughness = a; eta = eta; k = k; outside = outside }

-- F at cosine 1
fresnel_3 : fresnel f1 f3 f0 ≡ quarter
unfolding f_at dot decimal add mul
fresnel_3 = (Optics.samples).f_at_real

-- the rest, and the test of the sampler
rest-quarter : rest quarter ≡ three_quarters
unfolding rest sub
rest-quarter = refl

reflects_below : reflects (decimal 2 10) quarter ≡ true
unfolding reflects rest decimal add sub div lt
reflects_below = refl

passes_at : reflects quarter quarter ≡ false
unfolding reflects rest add sub div lt
passes_at = refl

-- mirrored about Z
reflect_Z : reflect Z Z ≡ direction Z
unfolding reflect mirrored project_onto length_squared dot float_mul div_float V3.sub same_hemisphere cos_theta add sub mul div neg lt
reflect_Z = refl

world_Z : to_world (basis Z) Z ≡ Z
unfolding to_world basis slope skew signum V3.add float_mul add sub mul div neg
world_Z = refl

-- bent about Z, local, and back in the world
abbrev -Z : Vec3
-Z = vec3 (fin true 0 (pos 0)) (fin true 0 (pos 0)) f_1

refract_Z : refract f3 Z Z ≡ direction -Z
unfolding refract refract_facing sin2_i is_total cos_i across_only bent dot float_mul div_float negate V3.add same_hemisphere cos_theta max is_nan square_root add sub mul div neg lt le
refract_Z = refl

world--Z : to_world (basis Z) -Z ≡ vec3 f0 f0 f_1
unfolding to_world basis slope skew signum V3.add float_mul add sub mul div neg
world--Z = refl

module _ (a : Vec2) (delta : is_delta a ≡ true) where
  smooth_3 : is_smooth a f3 ≡ true
  unfolding is_smooth eq
  smooth_3 = delta

  reflected-density : dielectric_pdf a f3 f0 true Z Z ≡ quarter
  unfolding dielectric_pdf dielectric_pdf_from eta_ratio dielectric_half on_z_side is_discarded reflected_pdf at_z rest f_at normalize length length_squared dot div_float negate V3.add cos_theta epsilon decimal max is_nan square_root add sub mul div neg lt eq
  reflected-density = rw (fresnel_3, smooth_3)

  passed-density : dielectric_pdf a f3 f0 false Z -Z ≡ three_quarters
  unfolding dielectric_pdf dielectric_pdf_from eta_ratio dielectric_half on_z_side is_discarded passed_pdf at_z rest f_at normalize length length_squared dot div_float negate V3.add cos_theta epsilon decimal max is_nan square_root add sub mul div neg lt eq
  passed-density = rw (fresnel_3, smooth_3)

module _ (a : Vec2) (eta k : List Float) (outside : Outside) (delta : is_delta a ≡ true) (same : constant_eta eta outside ≡ true)
    (eta-3 : Reads (index_on Glass eta outside) f3) (k-0 : Reads (k_at eta k) f0) where
  glass-lambda : lambda_on (glass a eta k outside) grid ≡ grid
  unfolding lambda_on left_on left_on_glass
  glass-lambda = rw same

  glass-eta : leading_index (glass a eta k outside) grid ≡ f3
  unfolding leading_index leading index_at
  glass-eta = eta-3.r0

  glass-facet : (u : Float) → facet (glass a eta k outside) grid (along u) ≡ Z
  unfolding facet facet_of dielectric_normal
  glass-facet u = rw (glass-eta, smooth_3 a delta)

  glass-share : (u : Float) → share (glass a eta k outside) grid (along u) ≡ quarter
  unfolding share fresnel_at leading index_at f_at dot add mul
  glass-share u = rw (local u, glass-facet u, eta-3.r0, k-0.r0, fresnel_3)

  glass_reflects : scatter (glass a eta k outside) grid (along (decimal 2 10)) ≡ scattered Z true
  unfolding scatter scatter_on dielectric_from branch
  glass_reflects =
      let u = decimal 2 10 in
      rw (glass-share u, reflects_below, local u, glass-facet u, reflect_Z)

  glass_passes : scatter (glass a eta k outside) grid (along quarter) ≡ scattered -Z false
  unfolding scatter scatter_on dielectric_from branch
  glass_passes = rw (glass-share quarter, passes_at, glass-eta, local quarter, glass-facet quarter, refract_Z)

  glass-shadowing : (u : Float) (wi : Vec3) → shadowing_on (glass a eta k outside) grid (along u) wi ≡ f1
  unfolding shadowing_on shadowing one_direction
  glass-shadowing u wi = rw (glass-eta, smooth_3 a delta)

  glass-weight :
      (u l : Float) (wi : Vec3) (r : Bool) → eq l f0 ≡ false →
      weight_from (scattered wi r) (glass a eta k outside) grid (along u) l f1 f1 ≡ f1
  unfolding weight_from weight filter mul
  glass-weight u l wi true z = rw (z, glass-shadowing u wi)
  glass-weight u l wi false z = rw (z, glass-shadowing u wi)

  glass-weights :
      (u : Float) (wi : Vec3) (r : Bool) → scatter (glass a eta k outside) grid (along u) ≡ scattered wi r →
      weights (glass a eta k outside) grid (along u) ≡ all f1
  unfolding weights weights_from eq
  glass-weights u wi r s =
      rw (
        s,
        glass-weight u l0 wi r refl,
        glass-weight u l1 wi r refl,
        glass-weight u l2 wi r refl,
        glass-weight u l3 wi r refl,
      )

  glass-bounce :
      (u d : Float) (wi w : Vec3) (r : Bool) → check_bounce (path grid (all f1)) (glass a eta k outside) (along u) ≡ accepted →
      scatter (glass a eta k outside) grid (along u) ≡ scattered wi r → to_world (basis Z) wi ≡ w →
      dielectric_pdf a f3 f0 r Z wi ≡ d → is_finite d ≡ true →
      bounce (path grid (all f1)) (glass a eta k outside) (along u) ≡
      branch_of r w (Some d) (Some (two_shares quarter three_quarters)) (path grid (all f1))
  unfolding bounce answered on_surface worked advanced weighed density density_of pdf pdf_of leading index_at shares shares_on mul
  glass-bounce u d wi w r ok s t p f =
      rw (
        ok,
        glass-lambda,
        s,
        glass-weights u wi r s,
        glass-share u,
        rest-quarter,
        local u,
        t,
        eta-3.r0,
        k-0.r0,
        p,
        f,
      )

-- ---- the samples
metal_accepted : (x : Float) → is_power x ≡ true → check_bounce (path grid (all x)) delta_metal (along f0) ≡ accepted
unfolding surface within eta_min decimal le
metal_accepted x p =
    checks delta_metal x f0
    (surface-holds delta_metal smooth-holds (eta_holds_lem f1 refl) (metal-k_holds f1) (metal-outer_holds (constant f1) (medium []))) p disk-holds

glass_accepted : (u : Float) → is_random u ≡ true → check_bounce (path grid (all f1)) delta_glass (along u) ≡ accepted
unfolding surface within eta_min decimal is_power le
glass_accepted u r =
    checks delta_glass f1 u
    (surface-holds delta_glass smooth-holds (eta_holds_lem f3 refl) (glass-k_holds f3) (glass-outer_holds f3)) refl r

pub glass-constant : (x : Float) → eq x x ≡ true → constant_eta (constant x) ones ≡ true
unfolding constant_eta is_constant eq
glass-constant x h = rw (every-replicate (eq x) x h 95, every-replicate (eq f1) f1 refl 95)

once : bounce (path grid (all f1)) delta_metal (along f0) ≡ reflected Z (Some f1) None (path grid (all half))
unfolding surface is_power within le mul
once =
    metal-bounce smooth (constant f1) (constant f2) (medium []) smooth_delta (reads_eta f1) (reads_k f1 f2)
    f1 half f0 (metal_accepted f1 refl) refl

again : bounce (path grid (all half)) delta_metal (along f0) ≡ reflected Z (Some f1) None (path grid (all quarter))
unfolding surface is_power within le mul
again =
    metal-bounce smooth (constant f1) (constant f2) (medium []) smooth_delta (reads_eta f1) (reads_k f1 f2)
    half quarter f0 (metal_accepted half refl) refl

abbrev u0 : Float
u0 = decimal 2 10

reflects-u0 : bounce (path grid (all f1)) delta_glass (along u0) ≡ reflected Z (Some quarter) (Some (two_shares quarter three_quarters)) (path grid (all f1))
unfolding surface branch_of is_finite is_random decimal lt le eq div
reflects-u0 =
    glass-bounce smooth (constant f3) (constant f0) ones smooth_delta (glass-constant f3 refl) (reads_index f3 refl) (reads_k f3 f0)
    u0 quarter Z Z true (glass_accepted u0 refl)
    (glass_reflects smooth (constant f3) (constant f0) ones smooth_delta (glass-constant f3 refl) (reads_index f3 refl) (reads_k f3 f0))
    world_Z (reflected-density smooth smooth_delta) refl

passes_quarter : bounce (path grid (all f1)) delta_glass (along quarter) ≡ passed (vec3 f0 f0 f_1) (Some three_quarters) (Some (two_shares quarter three_quarters)) (path grid (all f1))
unfolding surface branch_of is_finite is_random lt le eq div
passes_quarter =
    glass-bounce smooth (constant f3) (constant f0) ones smooth_delta (glass-constant f3 refl) (reads_index f3 refl) (reads_k f3 f0)
    quarter three_quarters -Z (vec3 f0 f0 f_1) false (glass_accepted quarter refl)
    (glass_passes smooth (constant f3) (constant f0) ones smooth_delta (glass-constant f3 refl) (reads_index f3 refl) (reads_k f3 f0))
    world--Z (passed-density smooth smooth_delta) refl

bounces : Samples
bounces = record { metal_once = once; metal_again = again; glass_reflects = reflects-u0; glass_passes = passes_quarter }

-- every starred sample of document 01
pub all_samples : AllSamples
all_samples = (Numbers.samples, Optics.samples, bounces)
