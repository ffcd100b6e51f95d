-- Demand 3 of the contract through the C library: a list of calls of rulvimba_bounce and rulvimba_book_bounce on one path in the caller's memory, after rulvimba_start. Definitions only; it is proved in proofs/Demand3.antt.
-- What holds is said of the doubles by their places (`Laid`): the definitions that read a path from memory and write one come in by the contracts of the calls alone.
use Rattle.std.specs.Prelude.{ℕ, ◌<◌, Float, Some, length}
use mathlib.Core.{Path.◌≡◌, Bool.true, Bool.false, List.List}
use Rattle.optics.specs.declared.{color.Color.Color, microfacet.Kind.TheVariants.Glass}
use Rattle.path.specs.Path.{path, ones, is_start}
use Rattle.path.specs.Many.{at}
use Rattle.path.specs.Answer.{two_shares}
use Rattle.path.specs.Reckoning.{reckon}
use Rattle.path.specs.Demand3.{ColorF64, StepF64, Fell, SharesHold, DensityHolds}
use Rattle.path.specs.declared.{records.Path.Path, records.Bounce.Bounce, plain.BounceResult.BounceResult}
use Rattle.book.specs.declared.record.Record.{Record}
use Rattle.rulvimba.specs.Paths.{StartCall, BounceCall}
use Rattle.rulvimba.specs.Calls.{Call, step_of, BookBounceCall, as_call}

-- ---- memory: eight doubles, the wavelengths of a path at 0 to 3 and its powers at 4 to 7
pub record Laid (p : Path) (xs : List Float) : Type 0 where
  pub eight : length xs ≡ 8
  pub lambda : (at xs 0 ≡ p.lambda.s0) × (at xs 1 ≡ p.lambda.s1) × (at xs 2 ≡ p.lambda.s2) × (at xs 3 ≡ p.lambda.s3)
  pub power : (at xs 4 ≡ p.power.s0) × (at xs 5 ≡ p.power.s1) × (at xs 6 ≡ p.power.s2) × (at xs 7 ≡ p.power.s3)

-- ---- what holds after a call c that found xs in memory, returned r and left ys, where q is the reckoning's path after it
pub record CallHolds (q : Path) (c : Call) (xs : List Float) (r : BounceResult) (ys : List Float) : Type 0 where
  -- each power is a number from 0 to what it was
  pub powers : Fell (at xs 4) (at ys 4) × Fell (at xs 5) (at ys 5) × Fell (at xs 6) (at ys 6) × Fell (at xs 7) (at ys 7)
  -- memory holds the product of 01's weights, to the last bit
  pub product : Laid q ys
  -- a refusal, which has a number, leaves memory as it was
  pub refused : 0 < r.number → ys ≡ xs
  -- every other call hands out shares on glass, kind 1, and none on metal, kind 0
  pub given : r.number ≡ 0 → r.shares.given ≡ c.surface.kind
  -- shares that are handed out are F and 1 - F, from 0 to 1, and add up to exactly 1.0
  pub shares : r.shares.given ≡ 1 → SharesHold Glass (Some (two_shares r.shares.reflected r.shares.passed))
  -- a density is finite and not below 0; where there is none, 0 stands there
  pub density : DensityHolds (Some r.density.value)

-- ---- a list of calls on the path in memory, each on a surface or on a book's: the numbers that go in are values of binary64, and what each call returned and left is what its contract says
pub data Calls : List Float → Type 0 where
  done : {xs : List Float} → Calls xs
  called : {xs : List Float} (c : Call) → StepF64 (step_of c) → (r : BounceResult) (ys : List Float) → BounceCall xs c.surface c.eta c.k c.outer c.bounce r ys → Calls ys → Calls xs
  called_on_book : {xs : List Float} (s : Record) (b : Bounce) → StepF64 (step_of (as_call s b)) → (r : BounceResult) (ys : List Float) → BookBounceCall xs s b r ys → Calls ys → Calls xs

-- the reckoning's path after a call
abbrev pub reckoned : Path → Call → Path
reckoned q c = reckon q (step_of c).surface (step_of c).bounce

-- after every call of it, q being the reckoning's path before the first
unfoldable pub AfterEach : {xs : List Float} → Path → Calls xs → Type 0
AfterEach q done = Unit
AfterEach {xs} q (called c f r ys h calls) =
    CallHolds (reckoned q c) c xs r ys × AfterEach (reckoned q c) calls
AfterEach {xs} q (called_on_book s b f r ys h calls) =
    CallHolds (reckoned q (as_call s b)) (as_call s b) xs r ys × AfterEach (reckoned q (as_call s b)) calls

-- ---- a start at these wavelengths that found `before` in memory, returned n and left `after`
pub record StartHolds (lambda : Color) (before : List Float) (n : ℕ) (after : List Float) : Type 0 where
  -- at four wavelengths of the range it is accepted, memory holds them and powers 1.0, and so on after every call of every list
  pub accepted : is_start lambda ≡ true → (n ≡ 0) × Laid (path lambda ones) after × ((calls : Calls after) → AfterEach (path lambda ones) calls)
  -- at others it is refused, and leaves memory as it was
  pub refused : is_start lambda ≡ false → (n ≡ 4) × (after ≡ before)

-- for every four wavelengths, and whatever memory held
unfoldable pub Demand3 : Type 0
Demand3 = (lambda : Color) (before : List Float) (n : ℕ) (after : List Float) → ColorF64 lambda → StartCall before lambda n after → StartHolds lambda before n after
