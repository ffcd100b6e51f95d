-- Vectors of two floats, in the order of operations of lumo's src/math/vec2.rs. Definitions only.
use Rattle.std.specs.Prelude.{Float}
use Rattle.std.specs.Float.Ieee.{neg}
pub use Rattle.numbers.specs.declared.vec2.Vec2.{Vec2}
use Rattle.numbers.specs.declared.vec3.Vec3.{Vec3}
use Rattle.floats.specs.Float as F
use Rattle.floats.specs.Float.{◌⊕◌, ◌⊖◌, ◌⊗◌, ◌⊘◌}

abbrev pub vec2 : Float → Float → Vec2
vec2 x y = record { x = x; y = y }

-- a function on each part, or on each two
abbrev pub each : (Float → Float) → Vec2 → Vec2
each f v = vec2 (f v.x) (f v.y)

abbrev pub each2 : (Float → Float → Float) → Vec2 → Vec2 → Vec2
each2 f v w = vec2 (f v.x w.x) (f v.y w.y)

abbrev pub splat : Float → Vec2
splat a = vec2 a a

abbrev pub extend : Vec2 → Float → Vec3
extend v z = record { x = v.x; y = v.y; z = z }

abbrev pub dot : Vec2 → Vec2 → Float
dot v w = v.x ⊗ w.x ⊕ v.y ⊗ w.y

unfoldable pub abs : Vec2 → Vec2
abs v = each F.abs v

unfoldable pub min : Vec2 → Vec2 → Vec2
min v w = each2 F.min v w

unfoldable pub max : Vec2 → Vec2 → Vec2
max v w = each2 F.max v w

abbrev pub negate : Vec2 → Vec2
negate v = each neg v

-- ---- operators: on two vectors, on a vector and a float, on a float and a vector. Each is a short name, read through everywhere.
abbrev pub add : Vec2 → Vec2 → Vec2
add v w = each2 ◌⊕◌ v w

abbrev pub sub : Vec2 → Vec2 → Vec2
sub v w = each2 ◌⊖◌ v w

abbrev pub mul : Vec2 → Vec2 → Vec2
mul v w = each2 ◌⊗◌ v w

abbrev pub div : Vec2 → Vec2 → Vec2
div v w = each2 ◌⊘◌ v w

abbrev pub add_float : Vec2 → Float → Vec2
add_float v a = each (λ x. x ⊕ a) v

abbrev pub sub_float : Vec2 → Float → Vec2
sub_float v a = each (λ x. x ⊖ a) v

abbrev pub mul_float : Vec2 → Float → Vec2
mul_float v a = each (λ x. x ⊗ a) v

abbrev pub div_float : Vec2 → Float → Vec2
div_float v a = each (λ x. x ⊘ a) v

abbrev pub float_add : Float → Vec2 → Vec2
float_add a v = each (λ x. a ⊕ x) v

abbrev pub float_sub : Float → Vec2 → Vec2
float_sub a v = each (λ x. a ⊖ x) v

abbrev pub float_mul : Float → Vec2 → Vec2
float_mul a v = each (λ x. a ⊗ x) v

abbrev pub float_div : Float → Vec2 → Vec2
float_div a v = each (λ x. a ⊘ x) v
