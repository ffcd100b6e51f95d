-- Answers that librulvimba has none of, laid out for C as its specs/Results.antt has its own: 01's number, which is 0 where a value is given, and the value, which is zeros where none is. Definitions only.
use Rattle.std.specs.Prelude.{Bool, false}
use Rattle.numbers.specs.declared.onb.Onb.{Onb}
use Rattle.numbers.specs.Refusal.{Answer}
use Rattle.optics.specs.Bxdf.{Scattered, scattered, lost, totally}
use Rattle.rulvimba.specs.Results.{zero3, number_of, value_or}
pub use Rattle.compare_path.specs.declared.results.{BoolResult.BoolResult, OnbResult.OnbResult, ScatteredResult.ScatteredResult}

unfoldable pub bool_result : Answer Bool → BoolResult
bool_result a = record { number = number_of a; value = value_or a false }

unfoldable pub onb_result : Answer Onb → OnbResult
onb_result a = record { number = number_of a; value = value_or a record { u = zero3; v = zero3; w = zero3 } }

-- a sampler: 1 a direction, 2 none, 3 total internal reflection, as a mirror or a bend has it
unfoldable pub scattered_result : Scattered → ScatteredResult
scattered_result (scattered wi reflection) = record { outcome = 1; reflection = reflection; direction = wi }
scattered_result lost = record { outcome = 2; reflection = false; direction = zero3 }
scattered_result totally = record { outcome = 3; reflection = false; direction = zero3 }
