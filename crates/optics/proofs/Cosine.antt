-- The cosine between two directions is the same from either side, and the square of the sine reads no sign of it.
use Rattle.std.proofs.Common.{◌≡◌, refl, true, false, Float}
use lib.Ieee.{nan, inf, fin, binary64, neg, mul}
use Rattle.floats.proofs.Rounding.Units.{product_comm}
use Rattle.floats.specs.Float.{◌⊗◌, abs}
use Rattle.numbers.specs.Vec3.{dot}
use Rattle.numbers.specs.declared.vec3.Vec3.{Vec3}
use Rattle.optics.specs.Fresnel.{sin2_i}

pub dot_comm : (v w : Vec3) → dot v w ≡ dot w v
unfolding dot
dot_comm v w =
    rw (
      product_comm binary64 v.x w.x,
      product_comm binary64 v.y w.y,
      product_comm binary64 v.z w.z,
    )

abs-sq : (c : Float) → abs c ⊗ abs c ≡ c ⊗ c
unfolding mul abs
abs-sq nan = refl
abs-sq (inf false) = refl
abs-sq (inf true) = refl
abs-sq (fin false m e) = refl
abs-sq (fin true m e) = refl

neg-sq : (c : Float) → neg c ⊗ neg c ≡ c ⊗ c
unfolding mul neg
neg-sq nan = refl
neg-sq (inf false) = refl
neg-sq (inf true) = refl
neg-sq (fin false m e) = refl
neg-sq (fin true m e) = refl

pub sin2_abs : (c eta : Float) → sin2_i (abs c) eta ≡ sin2_i c eta
unfolding sin2_i
sin2_abs c eta = rw (abs-sq c)

pub sin2_neg : (c eta : Float) → sin2_i (neg c) eta ≡ sin2_i c eta
unfolding sin2_i
sin2_neg c eta = rw (neg-sq c)
