-- A path in the caller's memory: eight numbers, four wavelengths and then four powers. Definitions only.
use Rattle.std.specs.Prelude.{ℕ, Float}
use mathlib.Core.{Path.◌≡◌, List.List, List.[], List.◌∷◌}
use Rattle.numbers.specs.Refusal.{Answer}
use Rattle.optics.specs.declared.color.Color.{Color}
use Rattle.counter.specs.Counter.{map_answer}
use Rattle.path.specs.Path.{start}
use Rattle.path.specs.Answer.{Outcome, refusal, lost, reflected, passed, bounce}
use Rattle.path.specs.Plain.{bounce_result}
unfoldable pub use Rattle.path.specs.Many.{path_in}
use Rattle.path.specs.declared.{records.Path.Path, records.Bounce.Bounce, plain.BounceResult.BounceResult}
use Rattle.rulvimba.specs.Results.{number_of, value_or}
use Rattle.rulvimba.specs.Surfaces.{SurfaceRecord, surface_with}

unfoldable pub numbers_of : Path → List Float
numbers_of p =
    p.lambda.s0 ∷ p.lambda.s1 ∷ p.lambda.s2 ∷ p.lambda.s3
    ∷ p.power.s0 ∷ p.power.s1 ∷ p.power.s2 ∷ p.power.s3 ∷ []

-- ---- what the memory holds after a start: the path, or what it held if the start is refused
unfoldable pub path_started : List Float → Answer Path → List Float
path_started before a = value_or (map_answer numbers_of a) before

-- the contract of rulvimba_start, which returns n and leaves `after` where `before` was
abbrev pub StartCall : List Float → Color → ℕ → List Float → Type 0
StartCall before lambda n after = (n ≡ number_of (start lambda)) × (after ≡ path_started before (start lambda))

-- ---- what the memory holds after a bounce: what it held if the bounce is refused, else the path of the answer
unfoldable pub path_after : List Float → Outcome → List Float
path_after before (refusal n p) = before
path_after before (lost shares p) = numbers_of p
path_after before (reflected wi density shares p) = numbers_of p
path_after before (passed wi density shares p) = numbers_of p

-- the contract of rulvimba_bounce, which reads its path from memory,
-- returns r and leaves `after` where `before` was
abbrev pub BounceCall : List Float → SurfaceRecord → List Float → List Float → List Float → Bounce → BounceResult → List Float → Type 0
BounceCall before s eta k outer b r after =
    let answer = bounce (path_in before) (surface_with s eta k outer) b in
    (r ≡ bounce_result answer) × (after ≡ path_after before answer)
