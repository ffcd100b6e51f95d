-- The samples of the rules (`Samples` of specs/Samples.antt): each is computed from the definitions.
use mathlib.Core.Path.{refl}
use lib.Ieee.{lt, le, eq, neg}
use Rattle.floats.specs.Float.{is_finite}
use Rattle.numbers.specs.Written.{over}
use Rattle.numbers.specs.Refusal.{unless_refused}
use Rattle.candidates.specs.Candidate.{is_density, check_candidate}
use Rattle.candidates.specs.Memory.{rows, listed, listed_ids, holding, check, insert, remove, changed, answer, left}
use Rattle.candidates.specs.Samples.{Samples, left_by}

pub samples : Samples
unfolding lt le eq neg is_finite over is_density check_candidate rows listed listed_ids holding check insert remove changed answer unless_refused left left_by
samples = record {
  full_and_listed = refl;
  full_and_below_zero = refl;
  listed_and_not_finite = refl;
  infinite = refl;
  listed = refl;
  room_for_one_lem = refl;
  minus_zero = refl;
  departs_when_full = refl;
  not_listed = refl;
  comes_again = refl;
  zeros = refl;
}
