-- The calls that bounce a path in memory: the arguments of rulvimba_bounce but the path, and rulvimba_book_bounce as one of those calls. Definitions only; `BookCallIsCall` is proved in proofs/BookBounce.antt.
use Rattle.std.specs.Prelude.{◌≡◌, List, Float}
use Rattle.optics.specs.Surface.{kind_code}
use Rattle.path.specs.Demand3.{Step}
use Rattle.path.specs.Plain.{bounce_result}
use Rattle.path.specs.declared.{records.Bounce.Bounce, plain.BounceResult.BounceResult}
use Rattle.book.specs.Surfaces.{offered_on}
use Rattle.book.specs.declared.record.Record.{Record}
use Rattle.book.specs.Record.{surface_of, offered}
use Rattle.book_path.specs.BookBounce.{faced, bounce_on_book}
use Rattle.rulvimba.specs.Surfaces.{SurfaceRecord, surface_with}
use Rattle.rulvimba.specs.Paths.{path_in, path_after, BounceCall}

-- ---- a call's arguments but the path
pub record Call : Type 0 where
  pub surface : SurfaceRecord
  pub eta : List Float
  pub k : List Float
  pub outer : List Float
  pub bounce : Bounce

-- the same as a step of path's `Demand3`
abbrev pub step_of : Call → Step
step_of c = record { surface = surface_with c.surface c.eta c.k c.outer; bounce = c.bounce }

-- ---- on a book's surface
-- what every other call takes for it: where its roughness isn't as it was given, one that is refused as 1
abbrev pub surface_of_book : Record → SurfaceRecord
surface_of_book s = record { kind = kind_code (surface_of s).kind; roughness = (offered_on (offered s)).roughness }

-- the contract of rulvimba_book_bounce, which reads its path from memory, returns r and leaves `after` where `before` was
abbrev pub BookBounceCall : List Float → Record → Bounce → BounceResult → List Float → Type 0
BookBounceCall before s b r after =
    let answer = bounce_on_book (path_in before) (offered s) b in
    (r ≡ bounce_result answer) × (after ≡ path_after before answer)

-- that call is one of rulvimba_bounce, with the flag that two-sided metal ignores
abbrev pub as_call : Record → Bounce → Call
as_call s b = record {
  surface = surface_of_book s;
  eta = (surface_of s).eta;
  k = (surface_of s).k;
  outer = (offered s).outer;
  bounce = faced (surface_of s) b;
}

unfoldable pub BookCallIsCall : Type 0
BookCallIsCall = (before : List Float) (s : Record) (b : Bounce) (r : BounceResult) (after : List Float)
    → BookBounceCall before s b r after
    → let c = as_call s b in BounceCall before c.surface c.eta c.k c.outer c.bounce r after
