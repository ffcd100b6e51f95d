-- The checks of a part's surface are those of its roughness as it was given and then of its spectra, beside an outer one of ones (`part_checks`): a
-- roughness that is accepted as it was given is a number from 1e-5 to 1 when raised (`raised_holds`), which is equal to itself.
use Rattle.std.proofs.Common.{◌≡◌, refl, sym, ap, ◌∙◌, ℕ, ◌+◌, ◌*◌, ◌==◌, inl, inr, Bool, true, false, T, cond, ◌&&◌, List, length, take, take_at, drop, replicate, Float}
use Rattle.std.specs.Float.{nan, NotNan}
use Rattle.std.proofs.lemmas.Float.{le_refl, le_right, le_of_not-lt, lt-or-eq, lt_irrefl}
use lib.Ieee.{le, lt, eq, is_nan}
use lib.Ieee.Bits.{is_true}
use lib.Ieee.Fits.{and_l, and_r, and_i}
use Rattle.floats.specs.Float.{f0, f1, decimal, within, max}
use Rattle.numbers.specs.Refusal.{refuse, ◌then◌}
use Rattle.numbers.specs.Vec2.{splat}
use Rattle.optics.specs.declared.microfacet.{Kind.Kind}
use Rattle.optics.specs.Surface.{medium, kind_of, raised, is_roughness_given, roughness_min, is_roughness, roughness_holds}
use Rattle.optics.specs.Check.{check_spectra, check_surface}
use Rattle.book.specs.Bytes.{double_in, doubles_in}
use Rattle.book.specs.Layout.{kind_byte, step_byte, flag_byte, samples_of}
use Rattle.book.specs.Surfaces.{surface_given, surface_in, roughness_kept, surface_on, check_read}
use Rattle.book.specs.Record.{laid}
use Rattle.book.proofs.Doubles.{length-doubles_in}
use Rattle.book.proofs.Surfaces.{ones_as_air}

-- a number is equal to itself
eq_itself : (x : Float) → NotNan x → T (eq x x)
eq_itself x number = elim (lt-or-eq x x (le_refl x number)) [
  | inl h ↦ absurd (lt_irrefl x h)
  | inr h ↦ h
]

-- ---- a roughness that is accepted as it was given
abbrev Holds : Float → Type 0
Holds x = T (eq x x) × T (is_roughness x)

least : Holds roughness_min
unfolding is_roughness within roughness_min decimal le eq
least = (tt, tt)

least_number : NotNan roughness_min
unfolding roughness_min decimal is_nan
least_number = tt

above : (g : Float) → T (is_roughness_given g) → lt g roughness_min ≡ false → Holds g
unfolding is_roughness is_roughness_given within
above g h not_below =
    let number = le_right f0 g (and_l (le f0 g) (le g f1) h) in
    let from = le_of_not-lt g roughness_min number least_number (rw not_below tt) in
    (eq_itself g number, and_i (le roughness_min g) (le g f1) from (and_r (le f0 g) (le g f1) h))

greater : (g : Float) → T (is_roughness_given g) → (is_none below : Bool) → lt g roughness_min ≡ below → Holds (cond is_none roughness_min (cond below roughness_min g))
greater g h true below e = least
greater g h false true e = least
greater g h false false e = above g h e

raised_holds : (g : Float) → T (is_roughness_given g) → Holds (raised g)
unfolding max
raised_holds g h = greater g h (is_nan g) (lt g roughness_min) refl

no_roughness : roughness_holds (splat nan) ≡ false
unfolding roughness_holds is_roughness within roughness_min decimal le
no_roughness = refl

-- it is kept when raised, and in the limits; one that isn't accepted is neither
kept_test : (g : Float) (accepted : Bool) → is_roughness_given g ≡ accepted
    → roughness_holds (cond (accepted && eq (raised g) (raised g) && eq (raised g) (raised g)) (splat (raised g)) (splat nan)) ≡ accepted
unfolding roughness_holds
kept_test g true e =
    let h = raised_holds g (rw e tt) in
    rw (is_true _ h.0, is_true _ h.1) refl
kept_test g false e = no_roughness

-- ---- of a part
-- so many of a spectrum's places are its entries
pub entries_front : (xs : List Float) (n : ℕ) → length xs ≡ n → take n (laid xs) ≡ xs
unfolding laid
entries_front xs n e = take_at xs _ n e

given_checks : (kind : Kind) (flag : Bool) (g : Float) (eta k : List Float)
    → check_read (surface_given kind flag g eta k) ≡ (refuse 1 (is_roughness_given g) then check_spectra kind eta k (medium (replicate (length eta) f1)))
unfolding check_read surface_on check_surface roughness_kept
given_checks kind flag g eta k =
    sym (ones_as_air (surface_given kind flag g eta k))
    ∙ ap (λ (b : Bool). refuse 1 b then check_spectra kind eta k (medium (replicate (length eta) f1))) (kept_test g (is_roughness_given g) refl)

pub part_checks : (p : List ℕ) → check_read (surface_in p)
    ≡ (refuse 1 (is_roughness_given (double_in (take 8 (drop 3 p))))
    then check_spectra (kind_of (kind_byte p)) (doubles_in (samples_of (step_byte p)) (drop 11 p)) (doubles_in (samples_of (step_byte p)) (drop (11 + 8 * samples_of (step_byte p)) p))
    (medium (replicate (samples_of (step_byte p)) f1)))
unfolding surface_in
part_checks p =
    let n = samples_of (step_byte p) in
    let as_many = length-doubles_in n (drop 11 p) in
    rw (given_checks (kind_of (kind_byte p)) (flag_byte p == 1) (double_in (take 8 (drop 3 p))) (doubles_in n (drop 11 p)) (doubles_in n (drop (11 + 8 * n) p)), as_many) refl
