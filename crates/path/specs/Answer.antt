-- What a bounce answers, with document 01's number and values for each case. Definitions only.
use Rattle.std.specs.Prelude.{ℕ, Bool, true, false, cond, Option, Some, None, Result, Ok, Err, Float}
use Rattle.floats.specs.Float.{is_finite}
use Rattle.numbers.specs.Onb.{basis, to_world}
use Rattle.numbers.specs.Refusal.{number, Verdict, accepted, rejected}
use Rattle.numbers.specs.declared.{refusal.Refusal.Refusal, vec3.Vec3.Vec3}
use Rattle.optics.specs.Surface.{Microsurface}
use Rattle.optics.specs.Bxdf.{Scattered, scattered, totally, rest}
use Rattle.optics.specs.Density.{pdf}
use Rattle.optics.specs.declared.{color.Color.Color, microfacet.Kind.Kind, microfacet.Kind.TheVariants.Metal, microfacet.Kind.TheVariants.Glass}
pub use Rattle.path.specs.declared.records.{Shares.Shares, Light.Light, Bounced.Bounced}
use Rattle.path.specs.Path.{Path, leading}
use Rattle.path.specs.Bounce.{Bounce, advanced, check_bounce, lambda_on, local_wo, share, scatter}

-- ---- the cases: refused by a number, with the path as it was; lost; reflected or passed
pub data Outcome : Type 0 where
  refusal : ℕ → Path → Outcome
  lost : Option Shares → Path → Outcome
  reflected passed : Vec3 → Option Float → Option Shares → Path → Outcome

-- light that is sent on, by the branch that was taken
unfoldable pub branch_of : Bool → Vec3 → Option Float → Option Shares → Path → Outcome
branch_of true wi density shares next = reflected wi density shares next
branch_of false wi density shares next = passed wi density shares next

abbrev pub outcome_of : Path → Result Light Refusal → Outcome
outcome_of p (Err why) = refusal (number why) p
outcome_of p (Ok (Light.Lost shares)) = lost shares p
outcome_of p (Ok (Light.Sent reflection wi density shares)) = branch_of reflection wi density shares p

unfoldable pub outcome : Bounced → Outcome
outcome b = outcome_of b.path b.light

-- ---- what they carry
-- the density of local wo and wi with the branch as its reflection flag, where it is finite
unfoldable pub density_of : Float → Option Float
density_of x = cond (is_finite x) (Some x) None

unfoldable pub density : Microsurface → Color → Bounce → Vec3 → Bool → Option Float
density m lambda b wi reflection = density_of (pdf m (local_wo b) wi reflection (leading lambda))

-- F and 1 - F at the leading wavelength, on glass alone
abbrev pub two_shares : Float → Float → Shares
two_shares F rest = record { reflected = F; passed = rest }

unfoldable pub shares_on : Kind → Float → Option Shares
shares_on Metal F = None
shares_on Glass F = Some (two_shares F (rest F))

unfoldable pub shares : Microsurface → Color → Bounce → Option Shares
shares m lambda b = shares_on m.kind (share m lambda b)

-- ---- the answer
-- no direction: lost. (A bend never meets total reflection here: `NeverTotal` of Demand3.antt.)
unfoldable pub worked : Scattered → Microsurface → Color → Bounce → Path → Outcome
worked (scattered wi reflection) m lambda b next =
    branch_of reflection (to_world (basis b.normal) wi) (density m lambda b wi reflection) (shares m lambda b) next
worked Scattered.lost m lambda b next = lost (shares m lambda b) next
worked totally m lambda b next = lost (shares m lambda b) next

-- a bounce that is not refused
unfoldable pub on_surface : Path → Microsurface → Bounce → Outcome
on_surface p m b =
    let lambda = lambda_on m p.lambda in
    worked (scatter m lambda b) m lambda b (advanced p m b)

unfoldable pub answered : Verdict → Path → Outcome → Outcome
answered accepted p answer = answer
answered (rejected n) p answer = refusal n p

unfoldable pub bounce : Path → Microsurface → Bounce → Outcome
bounce p m b = answered (check_bounce p m b) p (on_surface p m b)

-- the path that an answer carries
unfoldable pub path_of : Outcome → Path
path_of (refusal n p) = p
path_of (lost shares p) = p
path_of (reflected wi density shares p) = p
path_of (passed wi density shares p) = p
