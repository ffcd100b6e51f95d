-- The Fresnel term is a NaN or not below 0, for any index and any directions (`fresnel_not_below`): it is half of a sum of squares, 1 or 0.
use Rattle.std.proofs.Common.{refl, Bool, true, false, cond, Float}
use lib.Ieee.{eq}
use Rattle.floats.specs.Float.{◌⊕◌, ◌⊗◌, ◌⊘◌, f0, f1, f2, clamp, abs}
use Rattle.numbers.specs.Complex.{complex, norm_sqr}
use Rattle.numbers.specs.Vec3.{dot}
use Rattle.numbers.specs.declared.complex.Complex.{Complex}
use Rattle.numbers.specs.declared.vec3.Vec3.{Vec3}
use Rattle.optics.specs.Fresnel.{index_from, sin2_i, is_total, cos_i, contrast, mean_square, unpolarized, fr_facing, fr_real, complex_cos_i, r_par, r_per, fr_complex_facing, fr_complex, fresnel, f_at}
use Rattle.floats.proofs.Rounding.Signs.{NotNegative, Plus, plus_not_below, square-plus, add-plus, div_not_below, share_not_below}
use Rattle.floats.proofs.Rounding.Shares.{f1-share, f0-share}

half_not_below : (x : Float) → Plus x → NotNegative (x ⊘ f2)
half_not_below x h = div_not_below x f2 (plus_not_below x h) refl

mean_square_lem : (a b : Float) → NotNegative (mean_square a b)
unfolding mean_square
mean_square_lem a b = half_not_below (a ⊗ a ⊕ b ⊗ b) (add-plus (a ⊗ a) (b ⊗ b) (square-plus a) (square-plus b))

norm-plus : (z : Complex) → Plus (norm_sqr z)
unfolding norm_sqr
norm-plus z = add-plus (z.Re ⊗ z.Re) (z.Im ⊗ z.Im) (square-plus z.Re) (square-plus z.Im)

real_not_below : (c eta : Float) → NotNegative (fr_real c eta)
unfolding fr_real fr_facing unpolarized
real_not_below c eta = go (is_total (sin2_i (abs c) e))
  where
    e : Float
    e = index_from c eta

    i : Float
    i = cos_i (sin2_i (abs c) e)

    go : (total : Bool) → NotNegative (cond total f1 (mean_square (contrast (e ⊗ abs c) i) (contrast (abs c) (e ⊗ i))))
    go true = share_not_below f1 f1-share
    go false = mean_square_lem (contrast (e ⊗ abs c) i) (contrast (abs c) (e ⊗ i))

complex_not_below : (c eta k : Float) → NotNegative (fr_complex c eta k)
unfolding fr_complex fr_complex_facing
complex_not_below c eta k = half_not_below (norm_sqr par ⊕ norm_sqr per) (add-plus (norm_sqr par) (norm_sqr per) (norm-plus par) (norm-plus per))
  where
    o : Float
    o = clamp f0 f1 c

    n : Complex
    n = complex eta k

    par : Complex
    par = r_par o n (complex_cos_i o n)

    per : Complex
    per = r_per o n (complex_cos_i o n)

pub fresnel_not_below : (wo wh : Vec3) (eta k : Float) → NotNegative (f_at wo wh eta k)
unfolding f_at fresnel
fresnel_not_below wo wh eta k = go (eq k f0) (eq eta f0)
  where
    go : (real none : Bool) → NotNegative (cond real (cond none f0 (fr_real (dot wo wh) eta)) (fr_complex (dot wo wh) eta k))
    go true true = share_not_below f0 f0-share
    go true false = real_not_below (dot wo wh) eta
    go false none = complex_not_below (dot wo wh) eta k
