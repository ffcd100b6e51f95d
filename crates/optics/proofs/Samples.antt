-- Document 01's starred samples about this crate and known values of the index of glass (`Samples`, `IndexSamples` of specs/Samples.antt): each is
-- computed from the definitions.
use Rattle.std.proofs.Common.{◌≡◌, refl, ap, ◌∙◌, Bool, false, cond, negsuc, Float}
use lib.Ieee.{fin, binary64, add, sub, mul, div, neg, lt, le, eq, is_nan, of_int, to_unsigned, to_bits}
use Rattle.floats.specs.Float.{f0, f1, f2, decimal, epsilon, max, abs, clamp, sign_bit, signum, is_infinite, powi2}
use Rattle.floats.specs.SquareRoot.{square_root}
use Rattle.numbers.specs.DenseSpectrum.{step_of, ceiling, upper_point, upper_lambda, upper_weight, interpolate, sample_one_at, every, is_constant}
use Rattle.numbers.specs.Vec3.{X, Z, dot, length, length_squared, normalize, div_float, cross, float_mul, negate}
use Rattle.numbers.specs.Vec3 as V3
use Rattle.numbers.specs.Complex as C
use Rattle.numbers.specs.declared.vec2.Vec2.{Vec2}
use Rattle.numbers.specs.declared.vec3.Vec3.{Vec3}
use Rattle.numbers.specs.SphericalUtils.{cos_theta, cos2_theta, sin2_theta, tan2_theta, sin_theta, cos_phi, sin_phi}
use Rattle.optics.specs.Surface as Surface
use Rattle.optics.specs.Surface.{eta_from, eta_at, outer_at, index_on}
use Rattle.optics.specs.Facets.{half, alpha2, lambda, lambda_of, chi_pass, masked, g, g1, g_over_g1}
use Rattle.optics.specs.Fresnel.{index_from, sin2_i, is_total, cos_i, contrast, mean_square, unpolarized, fr_facing, fr_real, complex_cos_i, r_par, r_per, fr_complex_facing, fr_complex, fresnel, f_at}
use Rattle.optics.specs.Sampler.{stretched, upright, viewed, tangent, lerp, disk_x, disk_h, disk_y, disk_z, on_hemisphere, combined, unstretched, sample_normal}
use Rattle.optics.specs.Samples.{quarter, three_quarters, rough, w, Samples, IndexSamples}

fr_real_3 : fr_real (dot Z Z) (decimal 3 1) ≡ quarter
unfolding add sub mul div neg lt le eq is_nan decimal epsilon max abs clamp sign_bit signum is_infinite powi2 square_root dot index_from sin2_i is_total cos_i contrast mean_square unpolarized fr_facing fr_real
fr_real_3 = refl

fr_real_total : fr_real half half ≡ f1
unfolding add sub mul div neg lt le eq is_nan decimal epsilon max abs clamp sign_bit signum is_infinite powi2 square_root dot index_from sin2_i is_total cos_i contrast mean_square unpolarized fr_facing fr_real
fr_real_total = refl

fr_real_1 : fr_real (dot Z Z) f1 ≡ f0
unfolding add sub mul div neg lt le eq is_nan decimal epsilon max abs clamp sign_bit signum is_infinite powi2 square_root dot index_from sin2_i is_total cos_i contrast mean_square unpolarized fr_facing fr_real
fr_real_1 = refl

fr_complex_lem : fr_complex (dot Z Z) f1 f2 ≡ half
unfolding add sub mul div neg lt le eq is_nan decimal epsilon max abs clamp sign_bit signum is_infinite powi2 square_root dot C.div C.sqrt C.norm C.norm_sqr C.cos_half C.sin_half C.float_div C.div_float C.is_zero complex_cos_i r_par r_per fr_complex_facing fr_complex
fr_complex_lem = refl

f_at_real : f_at Z Z (decimal 3 1) f0 ≡ quarter
unfolding add sub mul div neg lt le eq is_nan decimal epsilon max abs clamp sign_bit signum is_infinite powi2 square_root dot index_from sin2_i is_total cos_i contrast mean_square unpolarized fr_facing fr_real fresnel f_at
f_at_real = refl

f_at_complex : f_at Z Z f1 f2 ≡ half
unfolding add sub mul div neg lt le eq is_nan decimal epsilon max abs clamp sign_bit signum is_infinite powi2 square_root dot C.div C.sqrt C.norm C.norm_sqr C.cos_half C.sin_half C.float_div C.div_float C.is_zero complex_cos_i r_par r_per fr_complex_facing fr_complex fresnel f_at
f_at_complex = refl

lambda_w : lambda rough w ≡ half
unfolding add sub mul div neg lt le eq is_nan decimal epsilon max abs clamp sign_bit signum is_infinite powi2 square_root dot cos_theta cos2_theta sin2_theta tan2_theta sin_theta cos_phi sin_phi alpha2 lambda lambda_of
lambda_w = refl

g_w : g rough w w Z ≡ half
unfolding add sub mul div neg lt le eq is_nan decimal epsilon max abs clamp sign_bit signum is_infinite powi2 square_root dot cos_theta cos2_theta sin2_theta tan2_theta sin_theta cos_phi sin_phi alpha2 lambda lambda_of chi_pass masked g g1
g_w = refl

-- the double nearest to 2/3
abbrev two_thirds : Float
two_thirds = fin false 6004799503160661 (negsuc 52)

g1_w : g1 rough w Z ≡ two_thirds
unfolding add sub mul div neg lt le eq is_nan decimal epsilon max abs clamp sign_bit signum is_infinite powi2 square_root dot cos_theta cos2_theta sin2_theta tan2_theta sin_theta cos_phi sin_phi alpha2 lambda lambda_of chi_pass masked g g1
g1_w = refl

quotient :
    (a : Vec2) (wo wi wh : Vec3) (x y : Float) → g a wo wi wh ≡ x → g1 a wo wh ≡ y →
    g_over_g1 a wo wi wh ≡ cond (eq y f0) f0 (div binary64 x y)
unfolding g_over_g1
quotient a wo wi wh x y p q = rw (p, q)

not_zero : eq two_thirds f0 ≡ false
unfolding eq
not_zero = refl

weight : div binary64 half two_thirds ≡ three_quarters
unfolding div
weight = refl

g_over_g1_w : g_over_g1 rough w w Z ≡ three_quarters
g_over_g1_w =
    quotient rough w w Z half two_thirds g_w g1_w
    ∙ ap (λ (b : Bool). cond b f0 (div binary64 half two_thirds)) not_zero
    ∙ weight

g1_across : g1 rough Z X ≡ f0
unfolding add sub mul div neg lt le eq is_nan decimal epsilon max abs clamp sign_bit signum is_infinite powi2 square_root dot cos_theta cos2_theta sin2_theta tan2_theta sin_theta cos_phi sin_phi alpha2 lambda lambda_of chi_pass masked g g1
g1_across = refl

normal_z : sample_normal rough Z f0 f1 f0 ≡ Z
unfolding add sub mul div neg lt le eq is_nan decimal epsilon max abs clamp sign_bit signum is_infinite powi2 square_root dot length length_squared normalize div_float cross float_mul negate V3.add stretched upright viewed tangent lerp disk_x disk_h disk_y disk_z on_hemisphere combined unstretched sample_normal
normal_z = refl

pub samples : Samples
samples = record {
  fr_real_3 = fr_real_3;
  fr_real_total = fr_real_total;
  fr_real_1 = fr_real_1;
  fr_complex_lem = fr_complex_lem;
  f_at_real = f_at_real;
  f_at_complex = f_at_complex;
  lambda_w = lambda_w;
  g_w = g_w;
  g_over_g1_w = g_over_g1_w;
  g1_across = g1_across;
  normal_z = normal_z;
}

pub index-samples : IndexSamples
unfolding index_on Surface.quotient eta_at eta_from outer_at is_constant every step_of sample_one_at upper_point upper_lambda upper_weight ceiling interpolate decimal add sub mul div lt eq of_int to_unsigned to_bits
index-samples = record { liquid = refl; ones = refl; ended = refl }
