-- Answers laid out for C: the number of the refusal, which is 0 where the call is accepted, and the values, which are zeros where there are none. Definitions only.
use Rattle.std.specs.Prelude.{ℕ, Float}
use Rattle.floats.specs.Float.{f0}
use Rattle.numbers.specs.Vec3.{vec3}
use Rattle.numbers.specs.Refusal.{Answer, refused, given, Verdict, accepted, rejected}
use Rattle.numbers.specs.declared.vec3.Vec3.{Vec3}
use Rattle.optics.specs.Bxdf.{Outgoing, direction, none, total}
use Rattle.optics.specs.Color.{color}
use Rattle.optics.specs.declared.color.Color.{Color}
pub use Rattle.rulvimba.specs.declared.records.{FloatResult.FloatResult, ColorResult.ColorResult, Vec3Result.Vec3Result, DirectionResult.DirectionResult}

abbrev pub zero3 : Vec3
zero3 = vec3 f0 f0 f0

unfoldable pub check_number : Verdict → ℕ
check_number accepted = 0
check_number (rejected n) = n

-- the number of an answer, and its value or what stands where there is none
abbrev pub number_of : {A : Type 0} → Answer A → ℕ
number_of (refused n) = n
number_of (given x) = 0

abbrev pub value_or : {A : Type 0} → Answer A → A → A
value_or (refused n) nothing = nothing
value_or (given x) nothing = x

unfoldable pub float_result : Answer Float → FloatResult
float_result a = record { number = number_of a; value = value_or a f0 }

unfoldable pub color_result : Answer Color → ColorResult
color_result a = record { number = number_of a; value = value_or a (color f0 f0 f0 f0) }

unfoldable pub vec3_result : Answer Vec3 → Vec3Result
vec3_result a = record { number = number_of a; value = value_or a zero3 }

-- a mirror or a bend: 0 refused, 1 a direction, 2 none, 3 total internal reflection
unfoldable pub direction_result : Answer Outgoing → DirectionResult
direction_result (refused n) = record { number = n; outcome = 0; direction = zero3 }
direction_result (given (direction wi)) = record { number = 0; outcome = 1; direction = wi }
direction_result (given none) = record { number = 0; outcome = 2; direction = zero3 }
direction_result (given total) = record { number = 0; outcome = 3; direction = zero3 }
