-- What an answer tells of the checks before it (`told`), and what was found of a surface of its kind (`metal_found`, `glass_found`).
use Rattle.std.proofs.Common.{◌≡◌, ℕ, List, Result, Ok, Err, sym, refl, ap, ◌∙◌, arith}
use lib.Ieee.{Float}
use Rattle.numbers.specs.DenseSpectrum.{step_of}
use Rattle.numbers.specs.Refusal.{number, Verdict, accepted, rejected, refused, given, answer, ◌▷◌}
use Rattle.numbers.specs.declared.refusal.Refusal.{Refusal}
use Rattle.optics.specs.Known.{known_on_glass}
use Rattle.optics.specs.Surface.{Outside}
use Rattle.optics.specs.declared.microfacet.{Known.Known, Kind.Kind, Kind.TheVariants.Metal, Kind.TheVariants.Glass}
use Rattle.path.specs.Known.{entries, found_on}
use Rattle.path.specs.declared.prepared.Found.TheVariants as F

-- ---- an answer that stands after a check
abbrev pub Told : {A : Type 0} → Result A Refusal → Verdict → A → Type 0
Told (Ok x) v y = (v ≡ accepted) × (y ≡ x)
Told (Err why) v y = v ≡ rejected (number why)

apart : {A : Type 0} (n : ℕ) (x : A) → refused n ≡ given x → ⊥
apart n x e = let z : ◌≡◌ {A = ℕ} 0 1 = cc in omega arith

tells : {A : Type 0} (r : Result A Refusal) (v : Verdict) (y : A) → answer r ≡ (v ▷ given y) → Told r v y
tells (Ok x) accepted y e = (refl, cc)
tells (Ok x) (rejected n) y e = absurd (apart n x cc)
tells (Err why) accepted y e = absurd (apart (number why) y e)
tells (Err why) (rejected n) y e = cc

pub told : {A : Type 0} {r : Result A Refusal} {x : Result A Refusal} → r ≡ x → (v : Verdict) (y : A) → answer r ≡ (v ▷ given y) → Told x v y
told {A} {r} {x} e v y h = tells x v y (ap answer (sym e) ∙ h)

-- ---- a surface's kind
pub metal_found : (kind : Kind) (eta : List Float) (outside : Outside) (step : Float) → found_on kind eta outside ≡ F.Metal step → (kind ≡ Metal) × (step ≡ step_of eta)
unfolding found_on
metal_found Metal eta outside step e = (refl, cc)
metal_found Glass eta outside step e = absurd (let z : ◌≡◌ {A = ℕ} 0 1 = cc in omega arith)

pub glass_found : (kind : Kind) (eta : List Float) (outside : Outside) (known : Known) → found_on kind eta outside ≡ F.Glass known → (kind ≡ Glass) × (known ≡ known_on_glass eta (entries outside))
unfolding found_on
glass_found Glass eta outside known e = (refl, cc)
glass_found Metal eta outside known e = absurd (let z : ◌≡◌ {A = ℕ} 0 1 = cc in omega arith)
