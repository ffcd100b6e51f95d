-- When two parts are equal, as their bytes tell: the kind, the step and the roughness first, any of which decides where it differs
-- (`other_kind`, `other_step`, `other_given`), and then the entries, eta's and k's in one go (`by_entries`). By the conjuncts of the definition.
use Rattle.std.proofs.Common.{◌≡◌, ℕ, ◌+◌, ◌*◌, true, false, ◌&&◌, ◌==◌, List, take, drop, arith, sym, ap, ◌∙◌, Float, drop-drop}
use Rattle.std.proofs.lemmas.Bool.{not-true, not-false, ne_eqb, eq-eqb, false_from_ne_true}
use Rattle.std.proofs.Math.Bool.{and-false}
use lib.Ieee.{eq, ne}
use lib.Pointwise.{pointwise_long}
use Rattle.optics.specs.Surface.{raised}
use Rattle.book.specs.Bytes.{double_in, doubles_in}
use Rattle.book.specs.Layout.{kind_byte, step_byte, samples_of, step_for}
use Rattle.book.specs.Surfaces.{same_values, surface_in, equal_surfaces, equal_for_reading}
use Rattle.book.proofs.Doubles.{length-doubles_in}
use Rattle.book.proofs.Surfaces.{kind_again, step_again}
use Rattle.book.proofs.layout.OnePart.{IsPart}
use Rattle.book.proofs.bytes.Same.{same, same_doubles-add}

abbrev pub raised_in : List ℕ → Float
raised_in p = raised (double_in (take 8 (drop 3 p)))

abbrev samples_in : List ℕ → ℕ
samples_in p = samples_of (step_byte p)

abbrev eta_in : List ℕ → List Float
eta_in p = doubles_in (samples_in p) (drop 11 p)

abbrev k_in : List ℕ → List Float
k_in p = doubles_in (samples_in p) (drop (11 + 8 * samples_in p) p)

module _ (p q : List ℕ) (part_p : IsPart p) (part_q : IsPart q) where
  by_bytes : equal_for_reading p q
      ≡ (kind_byte p == kind_byte q && eq (raised_in p) (raised_in q) && same_values (eta_in p) (eta_in q) && same_values (k_in p) (k_in q))
  unfolding equal_for_reading equal_surfaces surface_in
  by_bytes = rw (kind_again (kind_byte p) part_p.kind, kind_again (kind_byte q) part_q.kind)

  pub other_kind : (kind_byte p ≡ kind_byte q → ⊥) → false ≡ equal_for_reading p q
  other_kind other = rw (by_bytes, ne_eqb (kind_byte p) (kind_byte q) other)

  pub other_given : ne (raised_in p) (raised_in q) ≡ true → false ≡ equal_for_reading p q
  unfolding ne
  other_given other = rw (by_bytes, not-true (eq (raised_in p) (raised_in q)) other, and-false)

  -- spectra of other steps are of other lengths
  same_step : same_values (eta_in p) (eta_in q) ≡ true → step_byte p ≡ step_byte q
  unfolding same_values
  same_step equal =
      let long : samples_in p ≡ samples_in q =
      sym (length-doubles_in (samples_in p) (drop 11 p)) ∙ pointwise_long eq (eta_in p) (eta_in q) equal ∙ length-doubles_in (samples_in q) (drop 11 q) in
      sym (step_again (step_byte p) part_p.step) ∙ ap step_for long ∙ step_again (step_byte q) part_q.step

  pub other_step : (step_byte p ≡ step_byte q → ⊥) → false ≡ equal_for_reading p q
  other_step other =
      let eta : same_values (eta_in p) (eta_in q) ≡ false = false_from_ne_true _ (λ equal. other (same_step equal)) in
      rw (by_bytes, eta, and-false)

  -- eta's entries and then k's
  pub by_entries : kind_byte p ≡ kind_byte q → step_byte p ≡ step_byte q → ne (raised_in p) (raised_in q) ≡ false
      → same (2 * samples_in p) (drop 11 p) (drop 11 q) ≡ equal_for_reading p q
  unfolding ne
  by_entries kind step given =
      let n = samples_in p in
      let count : 2 * n ≡ n + n = omega arith in
      let both = same_doubles-add n n (drop 11 p) (drop 11 q) in
      rw (by_bytes, eq-eqb (kind_byte p) (kind_byte q) kind, not-false (eq (raised_in p) (raised_in q)) given, ← step, count, both)
      (simp drop-drop)
