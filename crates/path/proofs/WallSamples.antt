-- Known values of light that leaves exactly along the wall (`wall_samples` proves `WallSamples` of specs/AlongTheWall.antt), and of a whole bounce by stages: each leaf
-- (local wo, the index, the facet's normal, F, the bent direction, the density) is computed from its definition, and `rw` puts them together.
use Rattle.std.proofs.Common.{◌≡◌, Some, true, false, refl, negsuc}
use lib.Ieee.{Float, fin, add, sub, mul, div, neg, lt, le, eq, is_nan}
use Rattle.floats.specs.Float.{f0, f1, decimal, epsilon, within, max, abs, clamp, sign_bit, signum, is_infinite, is_finite, powi2}
use Rattle.floats.specs.SquareRoot.{square_root}
use Rattle.numbers.specs.Vec2.{splat}
use Rattle.numbers.specs.Vec3.{vec3, X, Z, dot, float_mul, div_float, negate, cross, length_squared, length, normalize, is_direction}
use Rattle.numbers.specs.Vec3 as V3
use Rattle.numbers.specs.Onb.{slope, skew, basis, to_local, to_world}
use Rattle.numbers.specs.SphericalUtils.{cos_theta, cos2_theta, sin2_theta, tan2_theta, sin_theta, cos_phi, sin_phi, same_hemisphere}
use Rattle.numbers.specs.DenseSpectrum.{is_wavelength, is_lookup_wavelength}
use Rattle.numbers.specs.declared.vec3.Vec3.{Vec3}
use Rattle.numbers.specs.Refusal.{accepted}
use Rattle.numbers.specs.Checked.{check_direction}
use Rattle.optics.specs.Surface.{roughness_min, is_roughness, roughness_holds, eta_min, index_on, index_at, constant_eta, surface}
use Rattle.optics.specs.Facets.{half, is_delta, alpha2, lambda, lambda_of, chi_pass, masked, g1, g, g_over_g1, cos4_theta, slope_squared, d, sample_normal_pdf}
use Rattle.optics.specs.Fresnel.{index_from, sin2_i, is_total, cos_i, contrast, mean_square, unpolarized, fr_facing, fr_real, fresnel, f_at}
use Rattle.optics.specs.Sampler.{stretched, upright, viewed, tangent, lerp, disk_x, disk_h, disk_y, disk_z, on_hemisphere, combined, unstretched, sample_normal}
use Rattle.optics.specs.Bxdf.{scattered, direction, bent, across_only, refract_facing, refract, branch, is_smooth, dielectric_normal, rest, reflects, dielectric_from}
use Rattle.optics.specs.Density.{on_z_side, bent_pdf, eta_ratio, dielectric_half, is_discarded, passed_pdf, dielectric_pdf_from, dielectric_pdf, pdf_of, pdf}
use Rattle.optics.specs.Check.{check_surface, is_random, check_random, is_circle_pair, check_circle_pair}
use Rattle.optics.specs.Samples.{rough, w}
use Rattle.optics.specs.declared.microfacet.Kind.TheVariants.{Glass}
use Rattle.optics.proofs.Samples as Optics
use Rattle.path.specs.Path.{path, leading, is_path_lambda, is_power, is_filter, weighed}
use Rattle.path.specs.Bounce.{advanced, check_bounce, check_rest, left_on_glass, left_on, lambda_on, local_wo, leading_index, facet_of, facet, fresnel_at, share, scatter_on, scatter, along_wall, one_direction, shadowing, shadowing_on, filter, weight, weight_from, weights_from, weights}
use Rattle.path.specs.Answer.{two_shares, passed, density_of, density, shares_on, shares, branch_of, worked, on_surface, answered, bounce}
use Rattle.path.specs.Samples.{all, grid, constant}
use Rattle.path.specs.AlongTheWall.{wall_index, wall_glass, aslant, WallSamples}
use Rattle.path.proofs.Samples.{Reads, reads_k, ones, reads_index, glass-constant, eta_holds_lem, glass-k_holds, glass-outer_holds, surface-holds}

-- ---- along X, at roughness 1
lambda_x : lambda rough X ≡ f0
unfolding lambda is_infinite tan2_theta sin2_theta cos2_theta max is_nan sub mul div lt
lambda_x = refl

front : chi_pass w Z ≡ true
unfolding chi_pass signum sign_bit cos_theta dot epsilon decimal is_nan square_root add mul lt
front = refl

quotient_lem : g_over_g1 rough w X Z ≡ f1
unfolding g_over_g1 g g1 masked add div eq
quotient_lem = rw (front, (Optics.samples).lambda_w, lambda_x)

shadowed : shadowing false rough w X Z ≡ f0
unfolding shadowing along_wall is_infinite tan2_theta sin2_theta cos2_theta max is_nan sub mul div lt
shadowed = refl

last : along_wall (vec3 f1 f0 (fin false 1 (negsuc 511))) ≡ true
unfolding along_wall is_infinite tan2_theta sin2_theta cos2_theta max is_nan sub mul div lt
last = refl

next : along_wall (vec3 f1 f0 (fin false 4503599627370497 (negsuc 563))) ≡ false
unfolding along_wall is_infinite tan2_theta sin2_theta cos2_theta max is_nan sub mul div lt
next = refl

-- ---- the bounce: its leaves
-- local wo, the facet's normal, local wi, the shares F and R = 1 - F, and the density D
wo : Vec3
wo = vec3 (fin false 3602879701896397 (negsuc 51)) f0 (fin false 5404319552844595 (negsuc 52))

wh : Vec3
wh = vec3 (fin false 747413698606579 (negsuc 49)) f0 (fin false 3368141002662361 (negsuc 51))

wi : Vec3
wi = vec3 (fin true 2251799813685251 (negsuc 50)) f0 f0

F : Float
F = fin false 6024871423971193 (negsuc 53)

R : Float
R = fin false 1498690885688849 (negsuc 50)

D : Float
D = fin false 2758078086128283 (negsuc 56)

local : local_wo aslant ≡ wo
unfolding wo local_wo to_local basis slope skew signum sign_bit decimal dot add sub mul div neg
local = refl

in_world : to_world (basis Z) wi ≡ wi
unfolding wi to_world basis slope skew signum sign_bit V3.add float_mul add sub mul div neg
in_world = refl

smooth-not : is_smooth (splat f1) wall_index ≡ false
unfolding is_smooth is_delta decimal add div lt eq
smooth-not = refl

normal : sample_normal (splat f1) wo f0 f1 f0 ≡ wh
unfolding wo wh sample_normal viewed stretched upright tangent lerp disk_x disk_h disk_y disk_z on_hemisphere combined unstretched V3.add float_mul negate cross normalize length length_squared div_float dot add sub mul div neg lt le eq is_nan decimal epsilon max square_root
normal = refl

share_is : f_at wo wh wall_index f0 ≡ F
unfolding wo wh F f_at fresnel fr_real fr_facing index_from sin2_i is_total cos_i unpolarized mean_square contrast dot abs max is_nan square_root add sub mul div neg lt le eq
share_is = refl

rest_is : rest F ≡ R
unfolding F R rest sub
rest_is = refl

passes : reflects half F ≡ false
unfolding F reflects rest add sub div lt
passes = refl

bends : refract wall_index wo wh ≡ direction wi
unfolding wo wh wi refract refract_facing sin2_i is_total cos_i across_only bent same_hemisphere cos_theta V3.add float_mul negate div_float dot add sub mul div neg lt le eq is_nan max square_root
bends = refl

along : along_wall wi ≡ true
unfolding wi along_wall is_infinite tan2_theta sin2_theta cos2_theta max is_nan sub mul div lt
along = refl

density_is : dielectric_pdf (splat f1) wall_index f0 false wo wi ≡ D
unfolding wo wi D dielectric_pdf dielectric_pdf_from eta_ratio dielectric_half on_z_side is_discarded passed_pdf bent_pdf rest f_at fresnel fr_real fr_facing index_from sin2_i is_total cos_i unpolarized mean_square contrast sample_normal_pdf g1 masked chi_pass lambda lambda_of alpha2 d cos4_theta slope_squared is_smooth is_delta cos_theta cos2_theta sin2_theta tan2_theta sin_theta cos_phi sin_phi powi2 clamp signum sign_bit is_infinite normalize length length_squared dot div_float negate V3.add epsilon decimal max abs is_nan square_root add sub mul div neg lt le eq
density_is = refl

index_reads : Reads (index_on Glass (constant wall_index) ones) wall_index
unfolding div
index_reads = reads_index wall_index refl

constant-holds : constant_eta (constant wall_index) ones ≡ true
unfolding eq
constant-holds = glass-constant wall_index refl

-- ---- and its stages
rough-holds : roughness_holds (splat (max f1 roughness_min)) ≡ true
unfolding roughness_holds is_roughness max roughness_min decimal within is_nan lt le
rough-holds = refl

surface_accepted : check_surface wall_glass ≡ accepted
unfolding surface within eta_min decimal le
surface_accepted = surface-holds wall_glass rough-holds (eta_holds_lem wall_index refl) (glass-k_holds wall_index) (glass-outer_holds wall_index)

bounce_accepted : check_bounce (path grid (all f1)) wall_glass aslant ≡ accepted
unfolding check_bounce check_rest is_path_lambda is_wavelength is_lookup_wavelength is_power is_filter check_direction is_direction length_squared dot check_random is_random check_circle_pair is_circle_pair decimal within add mul lt le eq
bounce_accepted = rw (surface_accepted)

-- roughness 1 is not raised
raised : max f1 roughness_min ≡ f1
unfolding max roughness_min decimal is_nan lt
raised = refl

lambda_is : lambda_on wall_glass grid ≡ grid
unfolding lambda_on left_on left_on_glass surface
lambda_is = rw (constant-holds)

index_is : leading_index wall_glass grid ≡ wall_index
unfolding leading_index leading index_at surface
index_is = index_reads.r0

facet_is : facet wall_glass grid aslant ≡ wh
unfolding facet facet_of dielectric_normal surface
facet_is = rw (index_is, local, raised, smooth-not, normal)

share_on : share wall_glass grid aslant ≡ F
unfolding share fresnel_at leading index_at surface
share_on = rw (local, facet_is, index_reads.r0, (reads_k wall_index f0).r0, share_is)

scatter_is : scatter wall_glass grid aslant ≡ scattered wi false
unfolding scatter scatter_on dielectric_from branch surface
scatter_is = rw (share_on, passes, index_is, local, facet_is, bends)

dark_q : shadowing_on wall_glass grid aslant wi ≡ f0
unfolding shadowing_on shadowing one_direction surface
dark_q = rw (index_is, raised, smooth-not, along)

dark_weight : (l : Float) → eq l f0 ≡ false → weight_from (scattered wi false) wall_glass grid aslant l f1 f1 ≡ f0
unfolding weight_from weight filter mul surface
dark_weight l z = rw (z, dark_q)

dark_weights : weights wall_glass grid aslant ≡ all f0
unfolding weights weights_from eq
dark_weights = rw (scatter_is, dark_weight grid.s0 refl, dark_weight grid.s1 refl, dark_weight grid.s2 refl, dark_weight grid.s3 refl)

given : density_of D ≡ Some D
unfolding D density_of is_finite
given = refl

density_on : density wall_glass grid aslant wi false ≡ Some D
unfolding density pdf pdf_of leading index_at surface
density_on = rw (raised, local, index_reads.r0, (reads_k wall_index f0).r0, density_is, given)

shares_are : shares wall_glass grid aslant ≡ Some (two_shares F R)
unfolding shares shares_on surface
shares_are = rw (share_on, rest_is)

powers_are : weighed (all f1) (all f0) ≡ all f0
unfolding weighed mul
powers_are = refl

dark : bounce (path grid (all f1)) wall_glass aslant ≡ passed wi (Some D) (Some (two_shares F R)) (path grid (all f0))
unfolding bounce answered on_surface worked branch_of advanced
dark = rw (bounce_accepted, lambda_is, scatter_is, dark_weights, powers_are, density_on, shares_are, in_world)

pub wall_samples : WallSamples
unfolding wi D F R
wall_samples = record { quotient = quotient_lem; shadowed = shadowed; last = last; next = next; dark = dark }
