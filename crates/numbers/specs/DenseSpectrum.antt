-- A spectrum of entries at equal steps over the wavelengths of the model, and its lookup, in the order of operations of lumo's src/tracer/color/dense_spectrum.rs. Definitions only.
use Rattle.std.specs.Prelude.{ℕ, ◌+◌, ◌-◌, length, pos, ◌==◌, slice_index_or, Float, Bool, true, false, ◌&&◌, ◌||◌, cond, List, [], ◌∷◌}
use Rattle.std.specs.Float.{nan, fin, binary64}
use Rattle.std.specs.Float.Ieee.{to_unsigned, of_int, lt, eq}
use Rattle.floats.specs.Float.{◌⊕◌, ◌⊖◌, ◌⊗◌, ◌⊘◌, f0, f1, f_1, within, is_finite}

-- ---- the tables
-- wavelengths from 360 to 830, in nanometres
abbrev pub lambda_min : Float
lambda_min = fin false 45 (pos 3)

abbrev pub lambda_max : Float
lambda_max = fin false 415 (pos 1)

-- lumo's has 95 entries, 5 apart (`SAMPLES`, `STEP`)
abbrev pub dense_samples : ℕ
dense_samples = 95

abbrev pub dense_step : Float
dense_step = fin false 5 (pos 0)

-- the finer one 471, 1 apart (02 (i))
abbrev pub fine_samples : ℕ
fine_samples = 471

abbrev pub fine_step : Float
fine_step = f1

-- how far apart a table's entries are, which their number tells; a list that is no table is read as if 5 apart
unfoldable pub step_of : List Float → Float
step_of values = cond (length values == fine_samples) fine_step dense_step

-- ---- what is accepted
-- from the table's start to this: 02 (viii) moves it past the table's end
abbrev pub accepted_max : Float
accepted_max = lambda_max

-- the wavelength that stands for one that was ended
abbrev pub terminated : Float
terminated = f0

-- ---- lookup
-- ⌈x⌉ is ⌊x⌋, and one more where that is below x. What lies at -1 or below, or from 2 ^ 64 up, or is NaN, gives 0: the checked lookup refuses such a wavelength.
unfoldable pub ceiling : Float → ℕ
ceiling x =
    let floor = to_unsigned 64 x in
    cond (lt f_1 x && lt x (fin false 1 (pos 64))) (cond (lt (of_int binary64 (pos floor)) x) (floor + 1) floor) 0

-- an entry, and NaN past the end
abbrev pub entry : List Float → ℕ → Float
entry values i = slice_index_or values i nan

-- the entries i0 and i1, the second with the weight x1
unfoldable pub interpolate : Float → Float → Float → Float
interpolate x1 i0 i1 = i0 ⊗ (f1 ⊖ x1) ⊕ i1 ⊗ x1

-- `b1` is the grid point from lambda up, at the wavelength `l1`, and x1 how far lambda lies from the one before it, in steps
unfoldable pub upper_point : Float → Float → ℕ
upper_point step lambda = ceiling ((lambda ⊖ lambda_min) ⊘ step)

unfoldable pub upper_lambda : Float → Float → Float
upper_lambda step lambda = lambda_min ⊕ step ⊗ of_int binary64 (pos (upper_point step lambda))

unfoldable pub upper_weight : Float → Float → Float
upper_weight step lambda = (lambda ⊖ (upper_lambda step lambda ⊖ step)) ⊘ step

-- 0 at a wavelength that was ended, at a grid point its entry, and between two the entries on either side, weighed
unfoldable pub sample_one_at : Float → List Float → Float → Float
sample_one_at step values lambda =
    cond (eq lambda terminated) f0
    (cond (eq lambda (upper_lambda step lambda)) (entry values (upper_point step lambda))
    (interpolate (upper_weight step lambda) (entry values (upper_point step lambda - 1)) (entry values (upper_point step lambda))))

unfoldable pub sample_one : List Float → Float → Float
sample_one values lambda = sample_one_at (step_of values) values lambda

-- ---- what holds of every entry
unfoldable pub every : (Float → Bool) → List Float → Bool
every p [] = true
every p (v ∷ vs) = p v && every p vs

-- every entry equals the first, by value
unfoldable pub is_constant : List Float → Bool
is_constant values = every (eq (entry values 0)) values

unfoldable pub all_within : Float → Float → List Float → Bool
all_within lo hi values = every (within lo hi) values

unfoldable pub all_finite : List Float → Bool
all_finite values = every is_finite values

-- ---- limits
-- as many entries as a table has
unfoldable pub is_table : List Float → Bool
is_table values = length values == dense_samples || length values == fine_samples

-- two spectra of one spacing: as many entries of each
unfoldable pub one_spacing : List Float → List Float → Bool
one_spacing values others = length values == length others

-- a wavelength that the table reaches
unfoldable pub in_table : Float → Bool
in_table lambda = within lambda_min lambda_max lambda

-- one that a path may start with
unfoldable pub is_wavelength : Float → Bool
is_wavelength lambda = within lambda_min accepted_max lambda

-- one that a lookup accepts: one that was ended as well
unfoldable pub is_lookup_wavelength : Float → Bool
is_lookup_wavelength lambda = eq lambda terminated || is_wavelength lambda
