-- What a bounce learns from a sampler's answer.
-- Where it is no direction, the bounce is lost (`no_direction`) and each weight is 0 (`no_weights`).
-- A direction that metal sends on is a reflection (`metal-reflects`).
use Rattle.std.proofs.Common.{◌≡◌, Result, Ok, Err, Bool, true, false, cond, sym, refl, ap, ◌∙◌}
use Rattle.floats.specs.Float.{f0}
use Rattle.numbers.specs.declared.vec2.Vec2.{Vec2}
use Rattle.numbers.specs.declared.vec3.Vec3.{Vec3}
use Rattle.optics.specs.Color.{color}
use Rattle.optics.specs.Surface.{Microsurface}
use Rattle.optics.specs.Bxdf.{Outgoing, direction, none, total, Scattered, scattered, totally, sample, sampled, branch, reflect, conductor_from}
use Rattle.optics.specs.Bxdf as Bxdf
use Rattle.optics.specs.Facets.{is_delta}
use Rattle.optics.specs.declared.color.Color.{Color}
use Rattle.optics.specs.declared.bxdf.{NoDirection.NoDirection, NoDirection.TheVariants.WrongSide, NoDirection.TheVariants.Total, Sample.Sample}
use Rattle.path.specs.declared.records.Path.{Path}
use Rattle.path.specs.declared.records.Bounce.{Bounce}
use Rattle.path.specs.Bounce.{weight_from, weights_from}
use Rattle.path.specs.Answer.{lost, shares, worked}

-- ---- no direction
abbrev pub Sampled : Type 0
Sampled = Result Sample NoDirection

abbrev pub Directionless : Sampled → Type 0
Directionless s = (x : Sample) → s ≡ Ok x → ⊥

pub no_direction : (s : Sampled) → Directionless s → (m : Microsurface) (lambda : Color) (b : Bounce) (next : Path)
    → worked (sampled s) m lambda b next ≡ lost (shares m lambda b) next
unfolding sampled worked
no_direction (Ok x) h m lambda b next = absurd (h x refl)
no_direction (Err WrongSide) h m lambda b next = refl
no_direction (Err Total) h m lambda b next = refl

pub no_weights : (s : Sampled) → Directionless s → (m : Microsurface) (lambda : Color) (b : Bounce)
    → weights_from (sampled s) m lambda b ≡ color f0 f0 f0 f0
unfolding sampled weights_from weight_from
no_weights (Ok x) h m lambda b = absurd (h x refl)
no_weights (Err WrongSide) h m lambda b = refl
no_weights (Err Total) h m lambda b = refl

-- ---- metal: each of its branches is a reflection
abbrev reflection : Scattered → Bool
reflection (scattered wi r) = r
reflection Bxdf.lost = true
reflection totally = true

of_branch : (o : Outgoing) → reflection (branch true o) ≡ true
unfolding branch
of_branch (direction wi) = refl
of_branch none = refl
of_branch total = refl

of_cond : (delta : Bool) (w : Vec3) (o : Outgoing) → reflection (cond delta (scattered w true) (branch true o)) ≡ true
of_cond true w o = refl
of_cond false w o = of_branch o

of_metal : (a : Vec2) (wo wh : Vec3) → reflection (conductor_from a wo wh) ≡ true
unfolding conductor_from
of_metal a wo wh = of_cond (is_delta a) _ (reflect wo wh)

pub metal-reflects : (a : Vec2) (wo wh wi : Vec3) (r : Bool) (s : Sampled) → sampled s ≡ conductor_from a wo wh → s ≡ Ok (sample wi r) → r ≡ true
unfolding sampled
metal-reflects a wo wh wi r s e d = ap reflection (sym (ap sampled d) ∙ e) ∙ of_metal a wo wh
