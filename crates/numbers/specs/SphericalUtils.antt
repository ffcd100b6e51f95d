-- Angles of a local direction, whose normal is Z, in the order of operations of lumo's src/math/spherical_utils.rs. Definitions only.
use Rattle.std.specs.Prelude.{Bool, cond, Float}
use Rattle.std.specs.Float.Ieee.{lt, eq}
use Rattle.floats.specs.Float.{◌⊖◌, ◌⊗◌, ◌⊘◌, f0, f1, f_1, max, clamp}
use Rattle.floats.specs.SquareRoot.{sqrt}
use Rattle.numbers.specs.Vec3.{Vec3}

unfoldable pub cos_theta : Vec3 → Float
cos_theta w = w.z

unfoldable pub cos2_theta : Vec3 → Float
cos2_theta w = w.z ⊗ w.z

unfoldable pub sin2_theta : Vec3 → Float
sin2_theta w = max (f1 ⊖ cos2_theta w) f0

unfoldable pub tan2_theta : Vec3 → Float
tan2_theta w = sin2_theta w ⊘ cos2_theta w

unfoldable pub sin_theta : Vec3 → Float
sin_theta w = sqrt (sin2_theta w)

unfoldable pub tan_theta : Vec3 → Float
tan_theta w = sin_theta w ⊘ cos_theta w

-- at the pole, where the sine is 0, φ is taken to be 0
unfoldable pub cos_phi : Vec3 → Float
cos_phi w = cond (eq (sin_theta w) f0) f1 (clamp f_1 f1 (w.x ⊘ sin_theta w))

unfoldable pub sin_phi : Vec3 → Float
sin_phi w = cond (eq (sin_theta w) f0) f0 (clamp f_1 f1 (w.y ⊘ sin_theta w))

-- either from the sine of θ: cos φ by the part along x, sin φ by that along y; `pole` where the sine is 0
unfoldable pub azimuth : Float → Float → Float → Float
azimuth part sin pole = cond (eq sin f0) pole (clamp f_1 f1 (part ⊘ sin))

unfoldable pub same_hemisphere : Vec3 → Vec3 → Bool
same_hemisphere v u = lt f0 (cos_theta v ⊗ cos_theta u)
