-- Vectors of three floats, in the order of operations of lumo's src/math/vec3.rs. Definitions only.
use Rattle.std.specs.Prelude.{Bool, Float}
use Rattle.std.specs.Float.Ieee.{neg, lt}
pub use Rattle.numbers.specs.declared.vec3.Vec3.{Vec3}
use Rattle.floats.specs.Float as F
use Rattle.floats.specs.Float.{◌⊕◌, ◌⊖◌, ◌⊗◌, ◌⊘◌, f0, f1, epsilon, decimal, within}
use Rattle.floats.specs.SquareRoot.{sqrt}
use Rattle.numbers.specs.Vec2.{Vec2}

abbrev pub vec3 : Float → Float → Float → Vec3
vec3 x y z = record { x = x; y = y; z = z }

-- a function on each part, or on each two
abbrev pub each : (Float → Float) → Vec3 → Vec3
each f v = vec3 (f v.x) (f v.y) (f v.z)

abbrev pub each2 : (Float → Float → Float) → Vec3 → Vec3 → Vec3
each2 f v w = vec3 (f v.x w.x) (f v.y w.y) (f v.z w.z)

abbrev pub X : Vec3
X = vec3 f1 f0 f0

abbrev pub Z : Vec3
Z = vec3 f0 f0 f1

abbrev pub splat : Float → Vec3
splat a = vec3 a a a

abbrev pub truncate : Vec3 → Vec2
truncate v = record { x = v.x; y = v.y }

unfoldable pub abs : Vec3 → Vec3
abs v = each F.abs v

unfoldable pub min : Vec3 → Vec3 → Vec3
min v w = each2 F.min v w

unfoldable pub max : Vec3 → Vec3 → Vec3
max v w = each2 F.max v w

unfoldable pub negate : Vec3 → Vec3
negate v = each neg v

-- ---- operators: on two vectors, on a vector and a float, on a float and a vector. A short name is read through everywhere;
-- those whose results are tested or measured afterwards stay folded, so that proofs can name them.
unfoldable pub add : Vec3 → Vec3 → Vec3
add v w = each2 ◌⊕◌ v w

unfoldable pub sub : Vec3 → Vec3 → Vec3
sub v w = each2 ◌⊖◌ v w

abbrev pub mul : Vec3 → Vec3 → Vec3
mul v w = each2 ◌⊗◌ v w

abbrev pub div : Vec3 → Vec3 → Vec3
div v w = each2 ◌⊘◌ v w

abbrev pub add_float : Vec3 → Float → Vec3
add_float v a = each (λ x. x ⊕ a) v

abbrev pub sub_float : Vec3 → Float → Vec3
sub_float v a = each (λ x. x ⊖ a) v

abbrev pub mul_float : Vec3 → Float → Vec3
mul_float v a = each (λ x. x ⊗ a) v

unfoldable pub div_float : Vec3 → Float → Vec3
div_float v a = each (λ x. x ⊘ a) v

abbrev pub float_add : Float → Vec3 → Vec3
float_add a v = each (λ x. a ⊕ x) v

abbrev pub float_sub : Float → Vec3 → Vec3
float_sub a v = each (λ x. a ⊖ x) v

unfoldable pub float_mul : Float → Vec3 → Vec3
float_mul a v = each (λ x. a ⊗ x) v

abbrev pub float_div : Float → Vec3 → Vec3
float_div a v = each (λ x. a ⊘ x) v

-- ---- products and lengths
abbrev pub scale : Vec3 → Float → Vec3
scale v s = each (λ x. x ⊗ s) v

unfoldable pub dot : Vec3 → Vec3 → Float
dot v w = v.x ⊗ w.x ⊕ v.y ⊗ w.y ⊕ v.z ⊗ w.z

unfoldable pub cross : Vec3 → Vec3 → Vec3
cross v w =
    vec3 (v.y ⊗ w.z ⊖ v.z ⊗ w.y)
    (v.z ⊗ w.x ⊖ v.x ⊗ w.z)
    (v.x ⊗ w.y ⊖ v.y ⊗ w.x)

unfoldable pub length_squared : Vec3 → Float
length_squared v = dot v v

unfoldable pub length : Vec3 → Float
length v = sqrt (F.max (length_squared v) f0)

unfoldable pub distance_squared : Vec3 → Vec3 → Float
distance_squared v w = length_squared (sub v w)

unfoldable pub distance : Vec3 → Vec3 → Float
distance v w = sqrt (F.max (distance_squared v w) f0)

-- w's part along n: (n * (w · n)) / (n · n), in that order
unfoldable pub project_onto : Vec3 → Vec3 → Vec3
project_onto w n = div_float (mul_float n (dot w n)) (length_squared n)

unfoldable pub normalize : Vec3 → Vec3
normalize v = div_float v (length v)

unfoldable pub is_normalized : Vec3 → Bool
is_normalized v = lt (F.abs (length_squared v ⊖ f1)) epsilon

unfoldable pub min_element : Vec3 → Float
min_element v = F.min v.x (F.min v.y v.z)

unfoldable pub max_element : Vec3 → Float
max_element v = F.max v.x (F.max v.y v.z)

-- ---- document 01's limit on a direction: x·x + y·y + z·z, computed, is from 0.999999 to 1.000001
unfoldable pub is_direction : Vec3 → Bool
is_direction w = within (decimal 999999 1000000) (decimal 1000001 1000000) (length_squared w)
