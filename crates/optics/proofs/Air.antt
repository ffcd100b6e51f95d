-- An outer spectrum of ones is air, and beside metal any is (`in_air_lem`): the index is eta at every wavelength, and nothing that is read of a surface, refused for it or computed from it differs.
-- A spectrum of ones is constant, so it is read as 1.0, and a value of binary64 divided by 1.0 is itself (`over_one`). Beside an eta without entries it has none either,
-- and both read NaN.
use Rattle.std.proofs.Common.{◌≡◌, refl, sym, ap, ◌∙◌, subst, Bool, true, false, ◌&&◌, cond, List, [], ◌∷◌, ℕ, suc, ◌-◌, le_antisymm, arith, T, eqb→eq, length, Float}
use mathlib.Core.Bool.{and-true}
use lib.Ieee.{nan, inf, fin, Format, binary64, add, mul, div, le, eq, fits}
use lib.Ieee.Fits.{and_l, and_r, and_i, add-fits, cond-fits}
use Rattle.floats.proofs.Rounding.Units.{U, U_pos, mag, unique}
use Rattle.floats.proofs.Rounding.NonNegative.{Fine, unit_is, fine_pos}
use Rattle.floats.proofs.Rounding.Sizes.{f1_upto, f1_parts, fine_N}
use Rattle.floats.specs.Float.{◌⊘◌, f0, f1, decimal, within}
use Rattle.numbers.specs.DenseSpectrum.{step_of, is_table, one_spacing, terminated, entry, interpolate, upper_point, upper_lambda, upper_weight, sample_one_at, every, is_constant, all_within}
use Rattle.numbers.specs.declared.vec3.Vec3.{Vec3}
use Rattle.numbers.proofs.dense_spectrum.Interpolation.{range_of}
use Rattle.optics.specs.F64.{AllF64}
use Rattle.optics.specs.Color.{Color}
use Rattle.optics.specs.Surface.{Kind, Metal, Glass, Outside, air, medium, Microsurface, eta_min, eta_max, eta_holds, k_holds, outer_holds, eta_from, eta_at, outer_at, quotient, index_on, index_at, constant_eta}
use Rattle.optics.specs.Check.{check_spectra, check_surface}
use Rattle.numbers.specs.Refusal.{refuse, ◌then◌}
use Rattle.numbers.proofs.dense_spectrum.Spacing.{shared_table}
use Rattle.optics.specs.Fresnel as Fresnel
use Rattle.optics.specs.Density as Density
use Rattle.optics.specs.Air.{all_ones, OnesBeside, AirBeside, in_air, SameInAir, InAir}
use Rattle.optics.proofs.Glass.{div_one}
use Rattle.optics.proofs.Spectra.{all_fit}

abbrev B : Format
B = binary64

-- ---- 1.0
-- dividing by it changes nothing, in a NaN and an infinity neither
over_one : (x : Float) → T (fits B x) → x ⊘ f1 ≡ x
unfolding div
over_one nan f = refl
over_one (inf false) f = refl
over_one (inf true) f = refl
over_one (fin s m e) f = div_one (fin s m e) (tt, f)

one_mag : mag f1 ≡ U
unfolding U
one_mag = refl

is_one : (x : Float) → T (fits B x) → T (within f1 f1 x) → x ≡ f1
unfolding within
is_one x f h =
    let low = and_l (le f1 x) (le x f1) h in
    let high = and_r (le f1 x) (le x f1) h in
    let r = range_of f1 f1 x f1_upto.fin f1_upto.fin f1_parts.1 f1_parts.1 f low high in
    let size : mag x ≡ U = le_antisymm r.high r.low ∙ one_mag in
    let fine : Fine x U = subst (λ (n : ℕ). Fine x n) size (fine_N x r.fin r.above) in
    unique x f1 false U f f1_upto.fin.1 (fine_pos x U fine U_pos) unit_is

-- ---- a spectrum of ones
first_one : (v : Float) (vs : List Float) → AllF64 (v ∷ vs) → T (all_ones (v ∷ vs)) → v ≡ f1
unfolding all_ones all_within every AllF64
first_one v vs all h = is_one v all.0 (and_l (within f1 f1 v) (every (within f1 f1) vs) h)

-- what holds of 1.0 holds of every entry
every_one : (p : Float → Bool) → T (p f1) → (outer : List Float) → AllF64 outer → T (all_ones outer) → T (every p outer)
unfolding all_ones all_within every AllF64
every_one p one [] all h = tt
every_one p one (v ∷ vs) all h =
    let rest = every_one p one vs all.1 (and_r (within f1 f1 v) (every (within f1 f1) vs) h) in
    and_i (p v) (every p vs) (subst (λ (x : Float). T (p x)) (sym (first_one v vs all h)) one) rest

one_equal : T (eq f1 f1)
unfolding eq
one_equal = tt

one_within : T (within eta_min eta_max f1)
unfolding eta_min decimal within div le
one_within = tt

holds : (b : Bool) → T b → b ≡ true
holds true h = refl
holds false h = elim h [ ]

ones-constant : (outer : List Float) → AllF64 outer → T (all_ones outer) → is_constant outer ≡ true
unfolding is_constant every
ones-constant [] all h = refl
ones-constant (v ∷ vs) all h =
    holds (every (eq v) (v ∷ vs))
    (subst (λ (x : Float). T (every (eq x) (v ∷ vs))) (sym (first_one v vs all h)) (every_one (eq f1) one_equal (v ∷ vs) all h))

outer_one : (eta : List Float) (v : Float) (vs : List Float) (lambda : Float) → AllF64 (v ∷ vs) → T (all_ones (v ∷ vs)) → outer_at eta (v ∷ vs) lambda ≡ f1
unfolding outer_at
outer_one eta v vs lambda all h = rw (ones-constant (v ∷ vs) all h) (first_one v vs all h)

-- ---- the index
-- what is read of eta at a wavelength that wasn't ended
abbrev unended : List Float → Float → Float
unended eta lambda =
    let step = step_of eta in
    let j = upper_point step lambda in
    cond (eq lambda (upper_lambda step lambda)) (entry eta j) (interpolate (upper_weight step lambda) (entry eta (j - 1)) (entry eta j))

unended-fits : (eta : List Float) (lambda : Float) → AllF64 eta → T (fits B (unended eta lambda))
unfolding interpolate
unended-fits eta lambda all =
    cond-fits B (eq lambda (upper_lambda (step_of eta) lambda)) (entry eta (upper_point (step_of eta) lambda)) _
    (all_fit eta all (upper_point (step_of eta) lambda)) (add-fits B _ _)

-- without entries it is NaN, which stays one whatever it is divided by
unended-nan : (lambda outer : Float) → unended [] lambda ⊘ outer ≡ unended [] lambda
unfolding interpolate add mul div
unended-nan lambda outer = go (eq lambda (upper_lambda (step_of []) lambda)) (upper_weight (step_of []) lambda)
  where
    go : (b : Bool) (x : Float) → cond b nan (interpolate x nan nan) ⊘ outer ≡ cond b nan (interpolate x nan nan)
    go true x = refl
    go false x = refl

-- at one that was ended both eta and the index are 0.0
unless_ended : (eta : List Float) (lambda outer : Float) → unended eta lambda ⊘ outer ≡ unended eta lambda → quotient lambda (eta_at eta lambda) outer ≡ eta_at eta lambda
unfolding quotient eta_at eta_from sample_one_at
unless_ended eta lambda outer same = go (eq lambda terminated)
  where
    go : (b : Bool) → cond b f0 (cond b f0 (unended eta lambda) ⊘ outer) ≡ cond b f0 (unended eta lambda)
    go true = refl
    go false = same

glass-index : (eta outer : List Float) → OnesBeside eta outer → (lambda : Float) → quotient lambda (eta_at eta lambda) (outer_at eta outer lambda) ≡ eta_at eta lambda
unfolding one_spacing
glass-index [] outer h lambda = unless_ended [] lambda (outer_at [] outer lambda) (unended-nan lambda (outer_at [] outer lambda))
glass-index (e ∷ es) [] h lambda = absurd (none (length es) (eqb→eq (suc (length es)) 0 h.spacing))
  where
    none : (n : ℕ) → suc n ≡ 0 → ⊥
    none n e = omega arith
glass-index (e ∷ es) (v ∷ vs) h lambda =
    let eta = e ∷ es in
    rw (outer_one eta v vs lambda h.outer_f64 h.ones) (unless_ended eta lambda f1 (over_one (unended eta lambda) (unended-fits eta lambda h.eta_f64)))

on_kind : (kind : Kind) (eta outer : List Float) → AirBeside kind eta outer → (lambda : Float) → index_on kind eta (medium outer) lambda ≡ eta_at eta lambda
unfolding index_on AirBeside
on_kind Metal eta outer h lambda = refl
on_kind Glass eta outer h lambda = glass-index eta outer h lambda

air-index : (kind : Kind) (eta : List Float) (lambda : Float) → index_on kind eta air lambda ≡ eta_at eta lambda
unfolding index_on
air-index Metal eta lambda = refl
air-index Glass eta lambda = refl

-- ---- the refusals
-- beside an eta that holds
outer_holds_lem : (kind : Kind) (eta outer : List Float) → AirBeside kind eta outer → T (eta_holds eta) → outer_holds kind eta (medium outer) ≡ true
unfolding outer_holds all_within eta_holds AirBeside
outer_holds_lem Metal eta outer h e = refl
outer_holds_lem Glass eta outer h e =
    let table = shared_table eta outer h.spacing (and_l (is_table eta) (every (within eta_min eta_max) eta) e) in
    holds (is_table outer && one_spacing eta outer && every (within eta_min eta_max) outer)
    (and_i (is_table outer && one_spacing eta outer) (every (within eta_min eta_max) outer) (and_i (is_table outer) (one_spacing eta outer) table h.spacing)
    (every_one (within eta_min eta_max) one_within outer h.outer_f64 h.ones))

air-holds : (kind : Kind) (eta : List Float) → outer_holds kind eta air ≡ true
unfolding outer_holds
air-holds Metal eta = refl
air-holds Glass eta = refl

-- a test that passes wherever the first does changes nothing of a chain
then_passed : (b k o : Bool) → (T b → o ≡ true) → (refuse 2 b then refuse 3 k then refuse 13 o) ≡ (refuse 2 b then refuse 3 k)
then_passed false k o h = refl
then_passed true true o h = rw (h tt)
then_passed true false o h = refl

spectra_01 : (kind : Kind) (eta k : List Float) (outside : Outside) → (T (eta_holds eta) → outer_holds kind eta outside ≡ true)
    → check_spectra kind eta k outside ≡ (refuse 2 (eta_holds eta) then refuse 3 (k_holds kind eta k))
unfolding check_spectra
spectra_01 kind eta k outside h = then_passed (eta_holds eta) (k_holds kind eta k) (outer_holds kind eta outside) h

pub air-spectra : (kind : Kind) (eta k : List Float) → check_spectra kind eta k air ≡ (refuse 2 (eta_holds eta) then refuse 3 (k_holds kind eta k))
air-spectra kind eta k = spectra_01 kind eta k air (λ (e : T (eta_holds eta)). air-holds kind eta)

-- ---- all of it
pub in_air_lem : InAir
unfolding InAir AirBeside index_at constant_eta check_surface Fresnel.f Density.pdf
in_air_lem s eta k outer h = record {
  index = on_kind kind eta outer h;
  constant = λ (g : kind ≡ Glass). constant-01 (subst (λ (kind : Kind). AirBeside kind eta outer) g h);
  spectra = spectra;
  check = rw (spectra, air-spectra kind eta k);
  fresnel = λ (wo wh : Vec3) (lambda : Color). rw (same lambda.s0, same lambda.s1, same lambda.s2, same lambda.s3);
  density = λ (wo wi : Vec3) (reflection : Bool) (lambda : Float). rw (same lambda);
}
  where
    kind : Kind
    kind = s.kind

    constant-01 : OnesBeside eta outer → (is_constant eta && is_constant outer) ≡ is_constant eta
    constant-01 ones = ap (λ (b : Bool). is_constant eta && b) (ones-constant outer ones.outer_f64 ones.ones) ∙ and-true (is_constant eta)

    spectra : check_spectra kind eta k (medium outer) ≡ (refuse 2 (eta_holds eta) then refuse 3 (k_holds kind eta k))
    spectra = spectra_01 kind eta k (medium outer) (outer_holds_lem kind eta outer h)

    same : (lambda : Float) → index_on kind eta (medium outer) lambda ≡ index_on kind eta air lambda
    same lambda = on_kind kind eta outer h lambda ∙ sym (air-index kind eta lambda)

-- for what the crates above compute from the index
pub same_index : (m : Microsurface) → SameInAir m → (lambda : Float) → index_at m lambda ≡ index_at (in_air m) lambda
unfolding index_at
same_index m h lambda = h.index lambda ∙ sym (air-index m.kind m.eta lambda)
