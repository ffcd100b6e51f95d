-- Demand 3 of the contract over lists of bounces on one path, each on a book's surface, two-sided or not, or on any other: such a list is one of path's `Demand3`. Definitions only; it is proved in proofs/Demand3.antt.
use mathlib.Core.{Path.◌≡◌, List.List, List.[], List.◌∷◌}
use Rattle.optics.specs.declared.color.Color.{Color}
use Rattle.path.specs.declared.records.Path.{Path}
use Rattle.path.specs.Path.{path, ones}
use Rattle.path.specs.declared.records.Bounce.{Bounce}
use Rattle.path.specs.declared.records.Bounced.{Bounced}
use Rattle.path.specs.Answer.{Outcome, outcome, bounce, path_of}
use Rattle.path.specs.Reckoning.{reckon}
use Rattle.path.specs.Demand3.{ColorF64, Step, StepF64, Holds}
use Rattle.book.specs.Surfaces.{Offered, offered_on}
use Rattle.book_path.specs.BookBounce.{faced, bounce_on_book}

-- one entry of the list: one of path's, or a book's surface and the bounce's other arguments but the path
pub data BookStep : Type 0 where
  plain : Step → BookStep
  on_book : Offered → Bounce → BookStep

-- what the reckoning is fed: on a book's surface the bounce with the flag that two-sided metal ignores
abbrev pub step_of : BookStep → Step
step_of (plain s) = s
step_of (on_book o b) = record { surface = offered_on o; bounce = faced o.surface b }

-- what the call's contract gives
unfoldable pub bounce_of : Path → BookStep → Outcome
bounce_of p (plain s) = bounce p s.surface s.bounce
bounce_of p (on_book o b) = bounce_on_book p o b

-- a list of bounces on one path, with the answers of the program, as in path's `Run`
pub data BookRun : Path → Type 0 where
  end : {p : Path} → BookRun p
  bounced : {p : Path} (s : BookStep) → StepF64 (step_of s) → (a : Bounced) → outcome a ≡ bounce_of p s → (q : Path) → q ≡ path_of (outcome a) → BookRun q → BookRun p

-- after every bounce of it, r being the reckoning's state
unfoldable pub Throughout : {p : Path} → Path → BookRun p → Type 0
Throughout r end = Unit
Throughout {p} r (bounced s f a c q e run) =
    Holds p q r (step_of s) a × Throughout (reckon r (step_of s).surface (step_of s).bounce) run

unfoldable pub Demand3OnBooks : Type 0
Demand3OnBooks = (lambda : Color) → ColorF64 lambda → (run : BookRun (path lambda ones)) → Throughout (path lambda ones) run

-- ---- that it speaks of every list: each list of steps, on any path, is that of a run
unfoldable pub BookStepsF64 : List BookStep → Type 0
BookStepsF64 [] = Unit
BookStepsF64 (s ∷ steps) = StepF64 (step_of s) × BookStepsF64 steps

unfoldable pub steps_of : {p : Path} → BookRun p → List BookStep
steps_of end = []
steps_of (bounced s f a c q e run) = s ∷ steps_of run

unfoldable pub BookRunForEvery : Type 0
BookRunForEvery = (p : Path) (steps : List BookStep) → BookStepsF64 steps → (run : BookRun p) × (steps_of run ≡ steps)
