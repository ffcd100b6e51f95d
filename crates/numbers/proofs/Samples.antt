-- Document 01's starred samples about this crate (`Samples` of specs/Samples.antt), the like of the finer table (`FineSamples`), and
-- roots that are known from elsewhere: each is computed from the definitions.
use Rattle.std.specs.Float.{fin, binary32, binary64}
use Rattle.std.specs.Float.Ieee.{add, sub, mul, div, lt, le, eq, of_int, to_unsigned, to_bits}
use Rattle.std.proofs.Common.{◌≡◌, true, false, List, ◌∷◌, pos, negsuc, refl, ap, Float}
use lib.Ieee.Bits.{is_true}
use Rattle.floats.specs.Float.{decimal, f0, f1, f2, within}
use Rattle.floats.specs.SquareRoot.{square_root}
use Rattle.numbers.specs.DenseSpectrum.{dense_step, fine_step, entry, sample_one, sample_one_at, upper_point, upper_lambda, upper_weight, ceiling, interpolate, is_lookup_wavelength, is_wavelength}
use Rattle.numbers.specs.Refusal.{refused, given}
use Rattle.numbers.specs.Checked.{table_holds, check_table, check_lookup, lookup}
use Rattle.numbers.specs.Samples.{Entries, Dense, Fine, Samples, FineSamples}
use Rattle.numbers.proofs.dense_spectrum.Spacing.{dense_step_lem, fine_step_lem}

-- ---- a lookup of entries that it accepts, at a wavelength inside the range and outside it
inside : (values : List Float) (lambda x : Float) → Entries values → is_lookup_wavelength lambda ≡ true → sample_one values lambda ≡ x → lookup values lambda ≡ given x
unfolding lookup check_table check_lookup
inside values lambda x h e s = rw (is_true (table_holds values) h, e, s)

outside : (values : List Float) (lambda : Float) → Entries values → is_lookup_wavelength lambda ≡ false → lookup values lambda ≡ refused 4
unfolding lookup check_table check_lookup
outside values lambda h e = rw (is_true (table_holds values) h, e)

-- ---- a lookup by the step that the number of entries tells
dense : (values : List Float) (lambda : Float) → Dense values → sample_one values lambda ≡ sample_one_at dense_step values lambda
unfolding sample_one
dense values lambda e = ap (λ (step : Float). sample_one_at step values lambda) (dense_step_lem values e)

fine : (values : List Float) (lambda : Float) → Fine values → sample_one values lambda ≡ sample_one_at fine_step values lambda
unfolding sample_one
fine values lambda e = ap (λ (step : Float). sample_one_at step values lambda) (fine_step_lem values e)

pub samples : Samples
unfolding sample_one sample_one_at upper_point upper_lambda upper_weight ceiling interpolate is_lookup_wavelength is_wavelength within decimal square_root add sub mul div lt le eq of_int to_unsigned
samples = record {
  at_360 = λ (rest : List Float) e. dense (f1 ∷ f2 ∷ rest) (decimal 360 1) e;
  at_362_and_a_half = λ (rest : List Float) e. dense (f1 ∷ f2 ∷ rest) (decimal 3625 10) e;
  at_365 = λ (rest : List Float) e. dense (f1 ∷ f2 ∷ rest) (decimal 365 1) e;
  at_0 = λ (values : List Float). refl;
  at_830 = λ (values : List Float) e. dense values (decimal 830 1) e;
  lookup_360 = λ (rest : List Float) e h. inside (f1 ∷ f2 ∷ rest) (decimal 360 1) f1 h refl (dense (f1 ∷ f2 ∷ rest) (decimal 360 1) e);
  lookup_362_and_a_half = λ (rest : List Float) e h. inside (f1 ∷ f2 ∷ rest) (decimal 3625 10) (decimal 15 10) h refl (dense (f1 ∷ f2 ∷ rest) (decimal 3625 10) e);
  lookup_365 = λ (rest : List Float) e h. inside (f1 ∷ f2 ∷ rest) (decimal 365 1) f2 h refl (dense (f1 ∷ f2 ∷ rest) (decimal 365 1) e);
  lookup_0 = λ (values : List Float) h. inside values f0 f0 h refl refl;
  lookup_830 = λ (values : List Float) e h. inside values (decimal 830 1) (entry values 94) h refl (dense values (decimal 830 1) e);
  past_830 = λ (values : List Float) h. outside values (fin false 7300757208432641 (negsuc 42)) h refl;
  at_359 = λ (values : List Float) h. outside values (decimal 359 1) h refl;
  root_of_4 = refl;
  root_of_least = refl;
  root_of_minus_0 = refl;
}

pub fine_samples_lem : FineSamples
unfolding sample_one_at upper_point upper_lambda upper_weight ceiling interpolate is_lookup_wavelength is_wavelength within decimal add sub mul div lt le eq of_int to_unsigned
fine_samples_lem = record {
  at_360 = λ (rest : List Float) e. fine (f1 ∷ f2 ∷ rest) (decimal 360 1) e;
  at_360_and_a_half = λ (rest : List Float) e. fine (f1 ∷ f2 ∷ rest) (decimal 3605 10) e;
  at_361 = λ (rest : List Float) e. fine (f1 ∷ f2 ∷ rest) (decimal 361 1) e;
  at_830 = λ (values : List Float) e. fine values (decimal 830 1) e;
  lookup_360 = λ (rest : List Float) e h. inside (f1 ∷ f2 ∷ rest) (decimal 360 1) f1 h refl (fine (f1 ∷ f2 ∷ rest) (decimal 360 1) e);
  lookup_360_and_a_half = λ (rest : List Float) e h. inside (f1 ∷ f2 ∷ rest) (decimal 3605 10) (decimal 15 10) h refl (fine (f1 ∷ f2 ∷ rest) (decimal 3605 10) e);
  lookup_361 = λ (rest : List Float) e h. inside (f1 ∷ f2 ∷ rest) (decimal 361 1) f2 h refl (fine (f1 ∷ f2 ∷ rest) (decimal 361 1) e);
  lookup_830 = λ (values : List Float) e h. inside values (decimal 830 1) (entry values 470) h refl (fine values (decimal 830 1) e);
}

-- ---- roots by their bit patterns: of 2, of the largest value, and of 2 in binary32
root_of_2 : to_bits binary64 (square_root binary64 f2) ≡ 0x3ff6_a09e_667f_3bcd
unfolding square_root to_bits
root_of_2 = refl

root_of_largest : to_bits binary64 (square_root binary64 (fin false 9007199254740991 (pos 971))) ≡ 0x5fef_ffff_ffff_ffff
unfolding square_root to_bits
root_of_largest = refl

root_of_2_in_binary32 : to_bits binary32 (square_root binary32 f2) ≡ 0x3fb5_04f3
unfolding square_root to_bits
root_of_2_in_binary32 = refl
