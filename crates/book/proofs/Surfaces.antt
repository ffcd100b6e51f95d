-- A surface of a book: its checks, and its part's bytes.
-- Of the checks: what an accepted surface holds (`accepted_of`); a roughness that isn't kept is refused as 1 (`refused_one`); an outer spectrum of ones is air in the
-- checks of every surface (`ones_as_air`), so that what is accepted where it is read is where it is written again, and the other way round (`read_of_written`,
-- `written_in_air`). Of the bytes: an accepted surface's part is a part (`part_is_part`, `length-part`) and is read as the surface (`surface_part`), and an accepted part
-- is the bytes of its surface (`part_surface`). The first since x and y are no zero and equal the roughness raised, the second since no accepted number is a NaN.
use Rattle.std.proofs.Common.{◌≡◌, refl, sym, ap, ap₂, ◌∙◌, inl, inr, ℕ, zero, suc, ◌+◌, ◌*◌, ◌≤◌, arith, Bool, true, false, ◌||◌, ◌==◌, cond, T, eqb, leb, eqb→eq, eqb-true, eq-eqb, leb-true, List, [], ◌∷◌, ◌++◌, append_assoc, append-nil, length, take, drop, replicate, length-append, length-drop, length-take-le, take_all, take-append-drop, drop-drop, drop_at, Float}
use Rattle.std.specs.Float.{nan, binary64, NotNan}
use Rattle.std.proofs.lemmas.Bool.{or_cases}
use Rattle.std.proofs.lemmas.Float.{le_right, T_from_true}
use Rattle.std.proofs.lemmas.List.{length-replicate}
use lib.Dec.{eqb_refl}
use lib.Ieee.{le, lt, is_nan}
use lib.Ieee.Bits.{is_true}
use lib.Ieee.Fits.{and_l, and_r, and_i, cond-fits, round-fits}
use Rattle.floats.specs.Float.{f0, f1, decimal, within, max}
use Rattle.numbers.specs.DenseSpectrum.{dense_samples, fine_samples, is_table, one_spacing, every, all_within}
use Rattle.numbers.specs.Refusal.{Verdict, accepted, refuse, ◌then◌}
use Rattle.numbers.specs.Vec2.{vec2, splat}
use Rattle.numbers.specs.declared.vec2.Vec2.{Vec2}
use Rattle.numbers.proofs.dense_spectrum.Spacing.{shared_table}
use Rattle.numbers.proofs.refusal.Checks.{test_passed, first_passed, next_passed}
use Rattle.optics.specs.declared.microfacet.{Kind.Kind, Kind.TheVariants.Metal, Kind.TheVariants.Glass}
use Rattle.optics.specs.F64.{F64, AllF64}
use Rattle.optics.specs.Surface.{kind_code, kind_of, is_kind_code, Outside, air, medium, raised, is_roughness_given, roughness_min, is_roughness, roughness_holds, eta_min, eta_max, eta_holds, k_min, k_max, all_zero, k_entries_hold, k_holds, outer_holds}
use Rattle.optics.specs.Air.{all_ones}
use Rattle.optics.specs.Check.{check_spectra, check_surface}
use Rattle.optics.proofs.Air.{air-spectra}
use Rattle.book.specs.Bytes.{AreBytes, double, double_in, doubles, doubles_in}
use Rattle.book.specs.Layout.{kind_byte, step_byte, flag_byte, samples_of, step_for, is_step, is_flag, part_length, is_part}
use Rattle.book.specs.Surfaces.{BookSurface, Offered, flag_of, part_bytes, surface_given, surface_in, roughness_kept, surface_on, RefusedOne, check_read, offered_on, air_outside, check_written}
use Rattle.book.specs.RoundTrips.{SurfaceF64, offered_in_air}
use Rattle.book.proofs.Doubles.{NoNan, bytes_take, bytes_drop, double-double_in, doubles_bytes, length-doubles_in, double_in-double, doubles_front, length-doubles, length-double}
use Rattle.book.proofs.SameValue.{same_roughness}
use Rattle.book.proofs.layout.OnePart.{is_part_of}

-- ---- what an accepted surface holds
pub record Accepted (s : BookSurface) : Type 0 where
  pub kept : T (roughness_kept s)
  pub roughness : T (roughness_holds s.roughness)
  pub eta : T (eta_holds s.eta)
  pub k : T (k_holds s.kind s.eta s.k)

no_roughness : T (roughness_holds (splat nan)) → ⊥
unfolding roughness_holds is_roughness within roughness_min decimal le
no_roughness h = h

kept_parts : (kept : Bool) (v : Vec2) → T (roughness_holds (cond kept v (splat nan))) → T kept × T (roughness_holds v)
kept_parts true v h = (tt, h)
kept_parts false v h = absurd (no_roughness h)

pub accepted_of : (s : BookSurface) (outside : Outside) → check_surface (surface_on s outside) ≡ accepted → Accepted s
unfolding surface_on check_surface check_spectra
accepted_of s outside h =
    let rough = kept_parts (roughness_kept s) s.roughness (test_passed 1 _ (first_passed _ _ h)) in
    let spectra = next_passed _ _ h in
    record {
      kept = rough.0;
      roughness = rough.1;
      eta = test_passed 2 _ (first_passed _ _ (first_passed _ _ spectra));
      k = test_passed 3 _ (next_passed _ _ (first_passed _ _ spectra));
    }

-- ---- what is refused as 1, in every call
pub refused_one : RefusedOne
unfolding surface_on check_surface roughness_holds is_roughness within roughness_min decimal le
refused_one s outside h = rw h refl

-- ---- an outer spectrum of ones
one_within : T (within eta_min eta_max f1)
unfolding eta_min decimal within le
one_within = tt

one_is_one : T (within f1 f1 f1)
unfolding within le
one_is_one = tt

every-replicate : (p : Float → Bool) (n : ℕ) (x : Float) → T (p x) → T (every p (replicate n x))
unfolding every
every-replicate p zero x h = tt
every-replicate p (suc n) x h = and_i (p x) (every p (replicate n x)) h (every-replicate p n x h)

ones_spacing : (eta : List Float) → T (one_spacing eta (replicate (length eta) f1))
unfolding one_spacing
ones_spacing eta = rw length-replicate (eqb_refl (length eta))

-- beside glass it holds wherever eta does
ones_hold : (kind : Kind) (eta : List Float) → T (eta_holds eta) → outer_holds kind eta (medium (replicate (length eta) f1)) ≡ true
unfolding outer_holds eta_holds all_within
ones_hold Metal eta h = refl
ones_hold Glass eta h =
    let ones = replicate (length eta) f1 in
    let table = shared_table eta ones (ones_spacing eta) (and_l _ _ h) in
    let limits = every-replicate (within eta_min eta_max) (length eta) f1 one_within in
    rw (is_true _ table, is_true _ (ones_spacing eta), is_true _ limits) refl

-- what passes wherever an earlier test does changes nothing of a chain
then_passed : (b k o : Bool) → (T b → o ≡ true) → (refuse 2 b then refuse 3 k then refuse 13 o) ≡ (refuse 2 b then refuse 3 k)
then_passed false k o h = refl
then_passed true true o h = rw (h tt)
then_passed true false o h = refl

pub ones_as_air : (s : BookSurface) → check_surface (surface_on s (medium (replicate (length s.eta) f1))) ≡ check_surface (surface_on s air)
unfolding surface_on check_surface check_spectra
ones_as_air s =
    let chain = then_passed (eta_holds s.eta) (k_holds s.kind s.eta s.k) _ (ones_hold s.kind s.eta) ∙ sym (air-spectra s.kind s.eta s.k) in
    ap (λ (v : Verdict). refuse 1 (roughness_holds (cond (roughness_kept s) s.roughness (splat nan))) then v) chain

-- ---- as it is read and as it is written
of_accepted : (s : BookSurface) → Accepted s → check_read s ≡ accepted
unfolding check_read surface_on check_surface
of_accepted s h =
    rw (is_true _ h.kept, is_true _ h.roughness, air-spectra s.kind s.eta s.k, is_true _ h.eta, is_true _ h.k) refl

pub read_of_written : (o : Offered) → check_written o ≡ accepted → check_read o.surface ≡ accepted
unfolding check_written offered_on
read_of_written o h = of_accepted o.surface (accepted_of o.surface (medium o.outer) (first_passed _ _ h))

ones_outside : (kind : Kind) (eta : List Float) → air_outside kind (replicate (length eta) f1) ≡ true
unfolding air_outside all_ones all_within
ones_outside Metal eta = refl
ones_outside Glass eta = rw (is_true _ (every-replicate (within f1 f1) (length eta) f1 one_is_one)) refl

pub written_in_air : (s : BookSurface) → check_read s ≡ accepted → check_written (offered_in_air s) ≡ accepted
unfolding check_read check_written offered_on
written_in_air s h = rw (ones_as_air s, h, ones_outside s.kind s.eta) refl

-- ---- x and y of an accepted surface are its roughness as given, raised
raised-fits : (r : Float) → F64 r → F64 (raised r)
unfolding max roughness_min decimal
raised-fits r f =
    let low : F64 roughness_min = round-fits binary64 false 1 100000 in
    cond-fits binary64 (is_nan r) _ _ low (cond-fits binary64 (lt r roughness_min) _ _ low f)

raised_is : (s : BookSurface) → SurfaceF64 s → Accepted s → splat (raised s.given) ≡ s.roughness
unfolding roughness_kept roughness_holds
raised_is s f h =
    let r = raised s.given in
    let fits = raised-fits s.given f.given in
    let x : s.roughness.x ≡ r = same_roughness s.roughness.x r f.roughness_x fits (search (and_l, and_r)) (search (and_l, and_r)) in
    let y : s.roughness.y ≡ r = same_roughness s.roughness.y r f.roughness_y fits (search (and_l, and_r)) (search (and_l, and_r)) in
    ap₂ vec2 (sym x) (sym y)

-- ---- what was written, read
pub kind_back : (kind : Kind) → kind_of (kind_code kind) ≡ kind
unfolding kind_of kind_code
kind_back Metal = refl
kind_back Glass = refl

pub flag_back : (flag : Bool) → (flag_of flag == 1) ≡ flag
unfolding flag_of
flag_back false = refl
flag_back true = refl

samples_back : (n : ℕ) → T (n == dense_samples || n == fine_samples) → samples_of (step_for n) ≡ n
unfolding samples_of step_for
samples_back n h = go (eqb n 95) (eqb n 471) refl refl h
  where
    go : (a b : Bool) → eqb n 95 ≡ a → eqb n 471 ≡ b → T (a || b) → cond (eqb (cond b 1 5) 1) 471 95 ≡ n
    go a true p q h = sym (eqb-true n 471 q)
    go true false p q h = sym (eqb-true n 95 p)
    go false false p q h = absurd h

pub entries_back : (s : BookSurface) → Accepted s → samples_of (step_for (length s.eta)) ≡ length s.eta
unfolding eta_holds is_table
entries_back s h = samples_back (length s.eta) (search (and_l, and_r))

pub k_entries : (s : BookSurface) → Accepted s → length s.k ≡ length s.eta
unfolding k_holds one_spacing
k_entries s h = sym (eqb→eq (length s.eta) (length s.k) (search (and_l, and_r)))

given_back : (s : BookSurface) → F64 s.given → double_in (take 8 (drop 3 (part_bytes s))) ≡ s.given
unfolding part_bytes double
given_back s f = double_in-double s.given f

spectra_bytes : (s : BookSurface) → drop 11 (part_bytes s) ≡ doubles s.eta ++ doubles s.k
unfolding part_bytes double
spectra_bytes s = refl

eta_back : (s : BookSurface) (n : ℕ) → n ≡ length s.eta → AllF64 s.eta → doubles_in n (drop 11 (part_bytes s)) ≡ s.eta
eta_back s n e f = rw (e, spectra_bytes s) (doubles_front s.eta (doubles s.k) f)

k_back : (s : BookSurface) (n : ℕ) → n ≡ length s.eta → length s.k ≡ length s.eta → AllF64 s.k → doubles_in n (drop (11 + 8 * n) (part_bytes s)) ≡ s.k
k_back s n e l f =
    let there : drop (11 + 8 * n) (part_bytes s) ≡ doubles s.k ++ [] =
    sym (drop-drop (8 * n) 11 (part_bytes s))
    ∙ ap (drop (8 * n)) (spectra_bytes s)
    ∙ drop_at (doubles s.eta) (doubles s.k) (8 * n) (omega (arith, length-doubles s.eta))
    ∙ sym (append-nil (doubles s.k)) in
    rw (there, e, ← l) (doubles_front s.k [] f)

same_surface : (s : BookSurface) (kind : Kind) (flag : Bool) (given : Float) (eta k : List Float) → kind ≡ s.kind → flag ≡ s.two_sided → given ≡ s.given → eta ≡ s.eta
    → k ≡ s.k → splat (raised s.given) ≡ s.roughness → surface_given kind flag given eta k ≡ s
same_surface s kind flag given eta k a b c d e r = rw (a, b, c, d, e, r) refl

pub surface_part : (s : BookSurface) → SurfaceF64 s → check_read s ≡ accepted → surface_in (part_bytes s) ≡ s
unfolding check_read surface_in part_bytes
surface_part s f h =
    let a = accepted_of s air h in
    let n = entries_back s a in
    same_surface s _ _ _ _ _ (kind_back s.kind) (flag_back s.two_sided) (given_back s f.given) (eta_back s _ n f.eta) (k_back s _ n (k_entries s a) f.k) (raised_is s f a)

-- ---- the part of an accepted surface is a part
pub kind_small : (kind : Kind) → T (leb (kind_code kind) 1)
unfolding kind_code
kind_small Metal = tt
kind_small Glass = tt

flag_small : (flag : Bool) → T (leb (flag_of flag) 1)
unfolding flag_of
flag_small false = tt
flag_small true = tt

step_known : (n : ℕ) → T (is_step (step_for n))
unfolding is_step step_for
step_known n = go (n == fine_samples)
  where
    go : (b : Bool) → T (cond b 1 5 == 5 || cond b 1 5 == 1)
    go true = tt
    go false = tt

pub length-part : (s : BookSurface) → check_read s ≡ accepted → length (part_bytes s) ≡ part_length (length s.eta)
unfolding check_read part_bytes part_length
length-part s h =
    omega (
      arith,
      k_entries s (accepted_of s air h),
      length-double s.given,
      length-append (double s.given ++ doubles s.eta) (doubles s.k),
      length-append (double s.given) (doubles s.eta),
      length-doubles s.eta,
      length-doubles s.k,
    )

pub part_is_part : (s : BookSurface) → check_read s ≡ accepted → is_part (part_bytes s) ≡ true
unfolding check_read is_part part_bytes
part_is_part s h =
    let size : length (part_bytes s) ≡ part_length (samples_of (step_for (length s.eta))) = length-part s h ∙ ap part_length (sym (entries_back s (accepted_of s air h))) in
    rw (is_true _ (kind_small s.kind), is_true _ (step_known (length s.eta)), is_true _ (flag_small s.two_sided)) (eq-eqb _ _ size)

-- ---- what is read is no NaN where it is accepted
within-number : (lo hi x : Float) → T (within lo hi x) → NotNan x
unfolding within
within-number lo hi x h = le_right lo x (and_l _ (le x hi) h)

every-number : (lo hi : Float) (xs : List Float) → T (every (within lo hi) xs) → NoNan xs
unfolding every
every-number lo hi [] h = tt
every-number lo hi (x ∷ xs) h =
    (within-number lo hi x (search and_l), every-number lo hi xs (search and_r))

k_number : (kind : Kind) (k : List Float) → T (k_entries_hold kind k) → NoNan k
unfolding k_entries_hold all_zero all_within
k_number Metal k h =
    elim (or_cases _ _ (is_true _ h)) [
      | inl z ↦ every-number f0 f0 k (T_from_true _ z)
      | inr m ↦ every-number k_min k_max k (T_from_true _ m)
    ]
k_number Glass k h = every-number f0 f0 k h

record Numbers (s : BookSurface) : Type 0 where
  given : NotNan s.given
  eta : NoNan s.eta
  k : NoNan s.k

numbers_of : (s : BookSurface) → Accepted s → Numbers s
unfolding roughness_kept is_roughness_given eta_holds all_within k_holds
numbers_of s h = record {
  given = within-number f0 f1 s.given (search (and_l, and_r));
  eta = every-number eta_min eta_max s.eta (search (and_l, and_r));
  k = k_number s.kind s.k (search (and_l, and_r));
}

-- ---- what was read, written
pub kind_again : (n : ℕ) → is_kind_code n ≡ true → kind_code (kind_of n) ≡ n
unfolding kind_code kind_of
kind_again zero h = refl
kind_again (suc zero) h = refl
kind_again (suc (suc n)) h = absurd (omega (arith, leb-true _ _ h))

pub flag_again : (n : ℕ) → is_flag n ≡ true → flag_of (n == 1) ≡ n
unfolding flag_of
flag_again zero h = refl
flag_again (suc zero) h = refl
flag_again (suc (suc n)) h = absurd (omega (arith, leb-true _ _ h))

pub step_again : (step : ℕ) → is_step step ≡ true → step_for (samples_of step) ≡ step
unfolding is_step samples_of step_for
step_again step h =
    elim (or_cases (step == 5) (step == 1) h) [
      | inl dense ↦ rw (eqb-true step 5 dense) refl
      | inr fine ↦ rw (eqb-true step 1 fine) refl
    ]

three_more : (p : List ℕ) → 3 ≤ length p → kind_byte p ∷ step_byte p ∷ flag_byte p ∷ drop 3 p ≡ p
three_more [] h = absurd (omega arith)
three_more (a ∷ []) h = absurd (omega arith)
three_more (a ∷ b ∷ []) h = absurd (omega arith)
three_more (a ∷ b ∷ c ∷ p) h = refl

numbers_again : (p : List ℕ) (n : ℕ) → AreBytes p → length p ≡ 11 + 16 * n → NotNan (double_in (take 8 (drop 3 p))) → NoNan (doubles_in n (drop 11 p))
    → NoNan (doubles_in n (drop (11 + 8 * n) p))
    → double (double_in (take 8 (drop 3 p))) ++ doubles (doubles_in n (drop 11 p)) ++ doubles (doubles_in n (drop (11 + 8 * n) p)) ≡ drop 3 p
numbers_again p n bytes size given eta k =
    let given_is = double-double_in (take 8 (drop 3 p)) (bytes_take 8 (drop 3 p) (bytes_drop 3 p bytes)) (length-take-le 8 (drop 3 p) (rw length-drop (omega arith))) given in
    let eta_is = doubles_bytes n (drop 11 p) (bytes_drop 11 p bytes) (rw length-drop (omega arith)) eta in
    let k_is = doubles_bytes n (drop (11 + 8 * n) p) (bytes_drop (11 + 8 * n) p bytes) (rw length-drop (omega arith)) k in
    let k_last : length (drop (11 + 8 * n) p) ≤ 8 * n = rw length-drop (omega arith) in
    rw (given_is, eta_is, k_is, take_all (8 * n) (drop (11 + 8 * n) p) k_last, ← drop-drop (8 * n) 11 p, append_assoc, take-append-drop, ← drop-drop 8 3 p, take-append-drop) refl

pub part_surface : (p : List ℕ) → AreBytes p → is_part p ≡ true → check_read (surface_in p) ≡ accepted → part_bytes (surface_in p) ≡ p
unfolding check_read surface_in part_bytes part_length
part_surface p bytes h checked =
    let part = is_part_of p h in
    let n = samples_of (step_byte p) in
    let numbers = numbers_of (surface_in p) (accepted_of (surface_in p) air checked) in
    rw (kind_again (kind_byte p) part.kind, length-doubles_in n (drop 11 p), step_again (step_byte p) part.step, flag_again (flag_byte p) part.flag, numbers_again p n bytes part.long numbers.given numbers.eta numbers.k)
    (three_more p (let s = part.long in omega arith))
