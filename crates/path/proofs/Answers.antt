-- Every bounce has an answer of the contract (`answers`), and so every list of steps a run (`run_for_every`): `Demand3` speaks of each list.
-- An accepted bounce is lost, reflected or passed. A refused one is by a number, and each check's number is that of a `Refusal`.
use Rattle.std.proofs.Common.{◌≡◌, ℕ, Bool, true, false, List, [], ◌∷◌, Ok, Err, refl, ap}
use Rattle.numbers.specs.Refusal.{number, Verdict, accepted, rejected, ◌then◌, refuse}
use Rattle.numbers.specs.declared.refusal.Refusal.{Refusal}
use Rattle.numbers.specs.declared.refusal.Refusal.TheVariants as W
use Rattle.optics.specs.Color.{all4}
use Rattle.optics.specs.Surface.{Microsurface, roughness_holds, eta_holds, k_holds, outer_holds}
use Rattle.numbers.specs.Vec3.{is_direction}
use Rattle.optics.specs.Bxdf.{Scattered, scattered, totally}
use Rattle.optics.specs.Bxdf as Bxdf
use Rattle.numbers.specs.Checked.{check_direction}
use Rattle.optics.specs.Check.{check_spectra, check_surface, check_random, check_circle_pair, is_random, is_circle_pair}
use Rattle.path.specs.Path.{is_path_lambda, is_power, is_filter}
use Rattle.path.specs.declared.records.Path.{Path}
use Rattle.path.specs.declared.records.Bounce.{Bounce}
use Rattle.path.specs.declared.records.Bounced.{Bounced}
use Rattle.path.specs.declared.records.Light.TheVariants as L
use Rattle.path.specs.Bounce.{check_bounce, check_rest, lambda_on, scatter, advanced}
use Rattle.path.specs.Answer.{refusal, outcome, branch_of, worked, on_surface, answered, bounce, path_of}
use Rattle.path.specs.Demand3.{Step, StepsF64, end, bounced, steps_of, Answered, RunForEvery}

-- ---- a verdict whose number, if it has one, is that of a refusal
abbrev Known : Verdict → Type 0
Known accepted = Unit
Known (rejected n) = (why : Refusal) × (number why ≡ n)

both : (c d : Verdict) → Known c → Known d → Known (c then d)
both accepted d h k = k
both (rejected n) d h k = h

one : (why : Refusal) (b : Bool) → Known (refuse (number why) b)
one why true = tt
one why false = (why, refl)

known : (p : Path) (m : Microsurface) (b : Bounce) → Known (check_bounce p m b)
unfolding check_bounce check_rest check_surface check_spectra check_direction check_random check_circle_pair number
known p m b =
    both _ _ (both _ _ (one W.Roughness (roughness_holds m.roughness)) (both _ _ (both _ _ (one W.Eta (eta_holds m.eta)) (one W.K (k_holds m.kind m.eta m.k))) (one W.Outer (outer_holds m.kind m.eta m.outside))))
    (both _ _ (both _ _ (both _ _ (both _ _ (both _ _ (both _ _ (both _ _ (both _ _ (one W.Wavelength (is_path_lambda p.lambda))
    (one W.Power (all4 is_power p.power)))
    (one W.Direction (is_direction b.wo)))
    (one W.Direction (is_direction b.normal)))
    (one W.RandomNumber (is_random b.u)))
    (one W.RandomNumber (is_random b.disk)))
    (one W.CirclePair (is_circle_pair b.c b.s)))
    (one W.Filter (all4 is_filter b.ks)))
    (one W.Filter (all4 is_filter b.tf)))

-- ---- an answer for every bounce
pub answers : Answered
unfolding Answered bounce answered on_surface worked branch_of outcome
answers p s = go (check_bounce p m b) (known p m b)
  where
    m : Microsurface
    m = s.surface

    b : Bounce
    b = s.bounce

    on : (s : Scattered) → (a : Bounced) × (outcome a ≡ worked s m (lambda_on m p.lambda) b (advanced p m b))
    on (scattered wi reflection) = (record { path = _; light = Ok (L.Sent reflection _ _ _) }, refl)
    on Bxdf.lost = (record { path = _; light = Ok (L.Lost _) }, refl)
    on totally = (record { path = _; light = Ok (L.Lost _) }, refl)

    go : (v : Verdict) → Known v → (a : Bounced) × (outcome a ≡ answered v p (worked (scatter m (lambda_on m p.lambda) b) m (lambda_on m p.lambda) b (advanced p m b)))
    go accepted h = on (scatter m (lambda_on m p.lambda) b)
    go (rejected n) (why, e) = (record { path = p; light = Err why }, ap (λ (n : ℕ). refusal n p) e)

-- ---- a run for every list of steps
pub run_for_every : RunForEvery
unfolding RunForEvery StepsF64 steps_of Answered
run_for_every p [] h = (end, refl)
run_for_every p (s ∷ steps) h =
    let a = answers p s in
    let next = run_for_every (path_of (outcome a.0)) steps h.1 in
    (bounced s h.0 a.0 a.1 (path_of (outcome a.0)) refl next.0, ap (λ (l : List Step). s ∷ l) next.1)
