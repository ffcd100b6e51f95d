-- What the memory holds after an answer as the program has it (`path_after_lem`): the answer's path, unless the bounce is refused.
use Rattle.std.proofs.Common.{◌≡◌, Result, Ok, Err, is_ok, true, false, cond, List, refl}
use lib.Ieee.{Float}
use Rattle.numbers.specs.declared.refusal.Refusal.{Refusal}
use Rattle.path.specs.declared.records.{Path.Path, Light.Light, Bounced.Bounced}
use Rattle.path.specs.declared.records.Light.TheVariants as L
use Rattle.path.specs.Answer.{outcome_of, outcome, branch_of}
use Rattle.rulvimba.specs.Paths.{numbers_of, path_after}

by_light : (before : List Float) (p : Path) (light : Result Light Refusal)
    → path_after before (outcome_of p light) ≡ cond (is_ok light) (numbers_of p) before
unfolding path_after branch_of
by_light before p (Err why) = refl
by_light before p (Ok (L.Lost shares)) = refl
by_light before p (Ok (L.Sent true wi density shares)) = refl
by_light before p (Ok (L.Sent false wi density shares)) = refl

pub path_after_lem : (before : List Float) (a : Bounced) → path_after before (outcome a) ≡ cond (is_ok a.light) (numbers_of a.path) before
unfolding outcome
path_after_lem before a = by_light before a.path a.light
