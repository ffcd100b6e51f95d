-- Document 01's measured samples that are to be proved (marked * there), as far as they concern this crate: one conjunction. Definitions only; it is proved in proofs/Samples.antt.
use Rattle.std.specs.Prelude.{T, length, pos, negsuc, Float, ◌≡◌, true, false, List, ◌∷◌}
use Rattle.std.specs.Float.{fin}
use Rattle.floats.specs.Float.{f0, f1, f2, decimal}
use Rattle.floats.specs.SquareRoot.{sqrt}
use Rattle.numbers.specs.DenseSpectrum.{dense_samples, fine_samples, sample_one, entry}
use Rattle.numbers.specs.Refusal.{refused, given}
use Rattle.numbers.specs.Checked.{table_holds, lookup}

-- entries that a lookup accepts
abbrev pub Entries : List Float → Type 0
Entries values = T (table_holds values)

-- as many as the table has that 01 speaks of, lumo's; and as many as the finer one
abbrev pub Dense : List Float → Type 0
Dense values = length values ≡ dense_samples

abbrev pub Fine : List Float → Type 0
Fine values = length values ≡ fine_samples

pub record Samples : Type 0 where
  -- of 95 entries, 1.0 and 2.0 first: 360 gives 1.0, 362.5 gives 1.5, 365 gives 2.0
  pub at_360 : (rest : List Float) → Dense (f1 ∷ f2 ∷ rest) → sample_one (f1 ∷ f2 ∷ rest) (decimal 360 1) ≡ f1
  pub at_362_and_a_half : (rest : List Float) → Dense (f1 ∷ f2 ∷ rest) → sample_one (f1 ∷ f2 ∷ rest) (decimal 3625 10) ≡ decimal 15 10
  pub at_365 : (rest : List Float) → Dense (f1 ∷ f2 ∷ rest) → sample_one (f1 ∷ f2 ∷ rest) (decimal 365 1) ≡ f2
  -- 0.0 gives 0.0
  pub at_0 : (values : List Float) → sample_one values f0 ≡ f0
  -- of 95 entries, 830 gives the last
  pub at_830 : (values : List Float) → Dense values → sample_one values (decimal 830 1) ≡ entry values 94
  -- the same of a lookup with its checks
  pub lookup_360 : (rest : List Float) → Dense (f1 ∷ f2 ∷ rest) → Entries (f1 ∷ f2 ∷ rest) → lookup (f1 ∷ f2 ∷ rest) (decimal 360 1) ≡ given f1
  pub lookup_362_and_a_half : (rest : List Float) → Dense (f1 ∷ f2 ∷ rest) → Entries (f1 ∷ f2 ∷ rest) → lookup (f1 ∷ f2 ∷ rest) (decimal 3625 10) ≡ given (decimal 15 10)
  pub lookup_365 : (rest : List Float) → Dense (f1 ∷ f2 ∷ rest) → Entries (f1 ∷ f2 ∷ rest) → lookup (f1 ∷ f2 ∷ rest) (decimal 365 1) ≡ given f2
  pub lookup_0 : (values : List Float) → Entries values → lookup values f0 ≡ given f0
  pub lookup_830 : (values : List Float) → Dense values → Entries values → lookup values (decimal 830 1) ≡ given (entry values 94)
  -- at either spacing the next double after 830 is refused 4, and 359 too
  pub past_830 : (values : List Float) → Entries values → lookup values (fin false 7300757208432641 (negsuc 42)) ≡ refused 4
  pub at_359 : (values : List Float) → Entries values → lookup values (decimal 359 1) ≡ refused 4
  -- √4 is 2
  pub root_of_4 : sqrt (decimal 4 1) ≡ f2
  -- √ of 2 ^ -1074 is 2 ^ -537
  pub root_of_least : sqrt (fin false 1 (negsuc 1073)) ≡ fin false 1 (negsuc 536)
  -- √-0 is -0
  pub root_of_minus_0 : sqrt (fin true 0 (pos 0)) ≡ fin true 0 (pos 0)

-- the same of the finer table (02 (i)): 1.0 and 2.0 first, 360 gives 1.0, 360.5 gives 1.5, 361 gives 2.0, and 830 the last entry
pub record FineSamples : Type 0 where
  pub at_360 : (rest : List Float) → Fine (f1 ∷ f2 ∷ rest) → sample_one (f1 ∷ f2 ∷ rest) (decimal 360 1) ≡ f1
  pub at_360_and_a_half : (rest : List Float) → Fine (f1 ∷ f2 ∷ rest) → sample_one (f1 ∷ f2 ∷ rest) (decimal 3605 10) ≡ decimal 15 10
  pub at_361 : (rest : List Float) → Fine (f1 ∷ f2 ∷ rest) → sample_one (f1 ∷ f2 ∷ rest) (decimal 361 1) ≡ f2
  pub at_830 : (values : List Float) → Fine values → sample_one values (decimal 830 1) ≡ entry values 470
  -- and of a lookup with its checks
  pub lookup_360 : (rest : List Float) → Fine (f1 ∷ f2 ∷ rest) → Entries (f1 ∷ f2 ∷ rest) → lookup (f1 ∷ f2 ∷ rest) (decimal 360 1) ≡ given f1
  pub lookup_360_and_a_half : (rest : List Float) → Fine (f1 ∷ f2 ∷ rest) → Entries (f1 ∷ f2 ∷ rest) → lookup (f1 ∷ f2 ∷ rest) (decimal 3605 10) ≡ given (decimal 15 10)
  pub lookup_361 : (rest : List Float) → Fine (f1 ∷ f2 ∷ rest) → Entries (f1 ∷ f2 ∷ rest) → lookup (f1 ∷ f2 ∷ rest) (decimal 361 1) ≡ given f2
  pub lookup_830 : (values : List Float) → Fine values → Entries values → lookup values (decimal 830 1) ≡ given (entry values 470)
