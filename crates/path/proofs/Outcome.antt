-- Laws of the definition of an answer's outcome: it carries the answer's path (`path_carried`), and light that is sent on is laid out as one record, whatever its branch (`sent_result`).
use Rattle.std.proofs.Common.{◌≡◌, Option, Result, Ok, Err, Bool, true, false, cond, refl}
use lib.Ieee.{Float}
use Rattle.numbers.specs.declared.refusal.Refusal.{Refusal}
use Rattle.numbers.specs.declared.vec3.Vec3.{Vec3}
use Rattle.path.specs.declared.records.{Path.Path, Shares.Shares, Light.Light, Bounced.Bounced}
use Rattle.path.specs.declared.records.Light.TheVariants as L
use Rattle.path.specs.Answer.{outcome_of, outcome, branch_of, path_of}
use Rattle.path.specs.Plain.{density_record, shares_record, bounce_result}

by_light : (p : Path) (light : Result Light Refusal) → path_of (outcome_of p light) ≡ p
unfolding branch_of path_of
by_light p (Err why) = refl
by_light p (Ok (L.Lost shares)) = refl
by_light p (Ok (L.Sent true wi density shares)) = refl
by_light p (Ok (L.Sent false wi density shares)) = refl

pub path_carried : (a : Bounced) → path_of (outcome a) ≡ a.path
unfolding outcome
path_carried a = by_light a.path a.light

pub sent_result : (reflection : Bool) (wi : Vec3) (density : Option Float) (shares : Option Shares) (p : Path)
    → bounce_result (branch_of reflection wi density shares p)
    ≡ record { number = 0; outcome = cond reflection 2 3; wi = wi; density = density_record density; shares = shares_record shares }
unfolding branch_of bounce_result
sent_result true wi density shares p = refl
sent_result false wi density shares p = refl
