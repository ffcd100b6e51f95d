-- What an accepted bounce tells of its arguments: each test of `check_bounce` passed (`Accepted`, `accepted_of`).
-- By the laws of a chain of checks.
use Rattle.std.proofs.Common.{◌≡◌, T}
use Rattle.numbers.specs.Vec3.{is_direction}
use Rattle.numbers.specs.Refusal.{accepted}
use Rattle.numbers.specs.Checked.{check_direction}
use Rattle.numbers.proofs.refusal.Checks.{test_passed, first_passed, next_passed}
use Rattle.optics.specs.Surface.{Microsurface, roughness_holds, eta_holds, k_holds, outer_holds}
use Rattle.optics.specs.Check.{check_spectra, check_surface, check_random, check_circle_pair, is_random, is_circle_pair}
use Rattle.optics.specs.Color.{all4}
use Rattle.path.specs.declared.records.Path.{Path}
use Rattle.path.specs.declared.records.Bounce.{Bounce}
use Rattle.path.specs.Path.{is_path_lambda, is_power, is_filter}
use Rattle.path.specs.Bounce.{check_bounce, check_rest}

pub record Accepted (p : Path) (m : Microsurface) (b : Bounce) : Type 0 where
  pub roughness : T (roughness_holds m.roughness)
  pub eta : T (eta_holds m.eta)
  pub k : T (k_holds m.kind m.eta m.k)
  pub outer : T (outer_holds m.kind m.eta m.outside)
  pub lambda : T (is_path_lambda p.lambda)
  pub power : T (all4 is_power p.power)
  pub wo : T (is_direction b.wo)
  pub normal : T (is_direction b.normal)
  pub u : T (is_random b.u)
  pub disk : T (is_random b.disk)
  pub pair : T (is_circle_pair b.c b.s)
  pub ks : T (all4 is_filter b.ks)
  pub tf : T (all4 is_filter b.tf)

pub accepted_of : (p : Path) (m : Microsurface) (b : Bounce) → check_bounce p m b ≡ accepted → Accepted p m b
unfolding check_bounce check_rest check_surface check_spectra check_direction check_random check_circle_pair
accepted_of p m b h₀ =
    let s = first_passed _ _ h₀ in
    let spectra = next_passed _ _ s in
    let h₉ = next_passed _ _ h₀ in
    let h₈ = first_passed _ _ h₉ in
    let h₇ = first_passed _ _ h₈ in
    let h₆ = first_passed _ _ h₇ in
    let h₅ = first_passed _ _ h₆ in
    let h₄ = first_passed _ _ h₅ in
    let h₃ = first_passed _ _ h₄ in
    let h₂ = first_passed _ _ h₃ in
    record {
      roughness = test_passed 1 _ (first_passed _ _ s);
      eta = test_passed 2 _ (first_passed _ _ (first_passed _ _ spectra));
      k = test_passed 3 _ (next_passed _ _ (first_passed _ _ spectra));
      outer = test_passed 13 _ (next_passed _ _ spectra);
      lambda = test_passed 4 _ (first_passed _ _ h₂);
      power = test_passed 10 _ (next_passed _ _ h₂);
      wo = test_passed 5 _ (next_passed _ _ h₃);
      normal = test_passed 5 _ (next_passed _ _ h₄);
      u = test_passed 6 _ (next_passed _ _ h₅);
      disk = test_passed 6 _ (next_passed _ _ h₆);
      pair = test_passed 7 _ (next_passed _ _ h₇);
      ks = test_passed 8 _ (next_passed _ _ h₈);
      tf = test_passed 8 _ (next_passed _ _ h₉);
    }
