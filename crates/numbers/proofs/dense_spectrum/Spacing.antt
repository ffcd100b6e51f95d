-- What the number of entries tells of a spectrum. Proved: its step (`dense_step_lem`, `fine_step_lem`), and that of two spectra of one spacing both are tables
-- or neither (`shared_table`), with one step (`shared_step`), since the definitions read nothing but that number.
use Rattle.std.proofs.Common.{◌≡◌, ℕ, cond, ◌||◌, T, eqb, List, length, ap, subst, eqb→eq, Float}
use Rattle.numbers.specs.DenseSpectrum.{dense_samples, dense_step, fine_samples, fine_step, step_of, is_table, one_spacing}

abbrev step_for : ℕ → Float
step_for n = cond (eqb n fine_samples) fine_step dense_step

pub dense_step_lem : (values : List Float) → length values ≡ dense_samples → step_of values ≡ dense_step
unfolding step_of
dense_step_lem values e = ap step_for e

pub fine_step_lem : (values : List Float) → length values ≡ fine_samples → step_of values ≡ fine_step
unfolding step_of
fine_step_lem values e = ap step_for e

shared_length : (values others : List Float) → T (one_spacing values others) → length values ≡ length others
unfolding one_spacing
shared_length values others h = eqb→eq (length values) (length others) h

pub shared_step : (values others : List Float) → T (one_spacing values others) → step_of values ≡ step_of others
unfolding step_of
shared_step values others h = ap step_for (shared_length values others h)

pub shared_table : (values others : List Float) → T (one_spacing values others) → T (is_table values) → T (is_table others)
unfolding is_table
shared_table values others h t = subst (λ (n : ℕ). T (eqb n dense_samples || eqb n fine_samples)) (shared_length values others h) t
