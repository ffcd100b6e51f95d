-- The record that a roughness and spectra make: its spectra are tables of one spacing, which have their places (`tables`), and it offers
-- what it was made of (`made_offers`).
use Rattle.std.proofs.Common.{◌≡◌, ℕ, ◌≤◌, Bool, T, ◌==◌, inl, inr, eqb-true, eqb→eq, le-leb, List, length, take_at, arith, refl, sym, Float}
use Rattle.std.proofs.lemmas.Bool.{or_cases}
use Rattle.std.proofs.lemmas.List.{length-replicate}
use lib.Ieee.Bits.{is_true}
use lib.Ieee.Fits.{and_l, and_r}
use Rattle.floats.specs.Float.{f0}
use Rattle.numbers.specs.DenseSpectrum.{is_table, one_spacing}
use Rattle.numbers.specs.Refusal.{accepted}
use Rattle.numbers.specs.Vec2.{splat}
use Rattle.numbers.proofs.refusal.Checks.{test_passed, first_passed, next_passed}
use Rattle.optics.specs.declared.microfacet.{Kind.Kind, Kind.TheVariants.Metal, Kind.TheVariants.Glass}
use Rattle.optics.specs.Surface.{medium, kind_code, raised, roughness_of, eta_holds, k_holds, outer_holds}
use Rattle.optics.specs.Check.{check_spectra}
use Rattle.numbers.specs.Written.{over}
use Rattle.book.specs.Surfaces.{flag_of}
use Rattle.book.specs.Record.{entries_in, surface_of, offered, outer_made, offered_made}
use Rattle.book.proofs.Surfaces.{kind_back, kind_small}
use Rattle.book.proofs.Records.{flag_kept}

-- a table has its places
table_places : (xs : List Float) → T (is_table xs) → length xs ≤ 471
unfolding is_table
table_places xs h =
    elim (or_cases (length xs == 95) (length xs == 471) (is_true _ h)) [
      | inl dense ↦ omega (arith, eqb-true (length xs) 95 dense)
      | inr fine ↦ omega (arith, eqb-true (length xs) 471 fine)
    ]

k_long : (kind : Kind) (eta k : List Float) → T (k_holds kind eta k) → length k ≡ length eta
unfolding k_holds one_spacing
k_long kind eta k h = sym (eqb→eq (length eta) (length k) (search (and_l, and_r)))

outer_long : (kind : Kind) (eta outer : List Float) → T (outer_holds kind eta (medium outer)) → length (outer_made kind (length eta) outer) ≡ length eta
unfolding outer_made outer_holds one_spacing
outer_long Metal eta outer h = length-replicate (length eta) f0
outer_long Glass eta outer h = sym (eqb→eq (length eta) (length outer) (search (and_l, and_r)))

pub record Tables (kind : Kind) (eta k outer : List Float) : Type 0 where
  pub places : length eta ≤ 471
  pub as_many : length k ≡ length eta
  pub outside : length (outer_made kind (length eta) outer) ≡ length eta

pub tables : (kind : Kind) (eta k outer : List Float) → check_spectra kind eta k (medium outer) ≡ accepted → Tables kind eta k outer
unfolding check_spectra eta_holds
tables kind eta k outer h =
    let two = first_passed _ _ h in
    let of_eta = test_passed 2 _ (first_passed _ _ two) in
    record {
      places = table_places eta (and_l _ _ of_eta);
      as_many = k_long kind eta k (test_passed 3 _ (next_passed _ _ two));
      outside = outer_long kind eta outer (test_passed 13 _ (next_passed _ _ h));
    }

-- entries at the front of their places
over_back : (xs places : List Float) (n : ℕ) → length xs ≡ n → n ≤ 471 → entries_in n (over xs places) ≡ xs
unfolding entries_in over
over_back xs places n e room = rw (le-leb n 471 room) (take_at xs _ n e)

pub made_offers : (kind : Kind) (flag : Bool) (r : Float) (eta k outer p q s : List Float) → Tables kind eta k outer
    → offered (record { kind = kind_code kind; two_sided = flag_of flag; given = r; roughness = splat (raised r); entries = length eta; eta = over eta p; k = over k q; outer = over (outer_made kind (length eta) outer) s })
    ≡ offered_made kind flag r eta k outer
unfolding offered surface_of roughness_of
made_offers kind flag r eta k outer p q s t =
    rw (
      kind_back kind,
      flag_kept flag,
      is_true _ (kind_small kind),
      over_back eta p (length eta) refl t.places,
      over_back k q (length eta) t.as_many t.places,
      over_back (outer_made kind (length eta) outer) s (length eta) t.outside t.places,
    ) refl
