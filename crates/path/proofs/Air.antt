-- Beside an outer spectrum of ones, and beside metal any, a bounce is the same as in air (`bounce-in_air`). What lies outside is read in three places, the checks, the wavelengths that end and the index,
-- and each is the same by the law of optics; so is then each definition that a bounce is made of, in their order.
use Rattle.std.proofs.Common.{◌≡◌, ℕ, zero, suc, Bool, cond, List, refl, ap}
use lib.Ieee.{Float}
use Rattle.numbers.specs.declared.vec3.Vec3.{Vec3}
use Rattle.optics.specs.declared.{color.Color.Color, microfacet.Kind.Kind, microfacet.Kind.TheVariants.Metal, microfacet.Kind.TheVariants.Glass}
use Rattle.optics.specs.Surface.{air, Microsurface, microsurface, constant_eta}
use Rattle.optics.specs.Bxdf.{Scattered, scattered, lost, totally}
use Rattle.optics.specs.Air as Optics
use Rattle.optics.specs.Air.{in_air, SameInAir}
use Rattle.optics.proofs.Air.{in_air_lem, same_index}
use Rattle.path.specs.Path.{Path, leading, terminate}
use Rattle.path.specs.Bounce.{Bounce, check_bounce, left_on_glass, left_on, lambda_on, local_wo, leading_index, facet_of, facet, fresnel_at, share, scatter_on, scatter, one_direction, shadowing_on, weight_from, weights_from, weights, advanced}
use Rattle.path.specs.Answer.{density, shares, worked, on_surface, bounce}
use Rattle.path.specs.Reckoning.{reckon}
use Rattle.path.specs.Many.{bounced, bounced_at, all_bounced}
use Rattle.path.specs.Air.{InAir}

module _ (m : Microsurface) (h : SameInAir m) where
  -- ---- the checks
  check-same : (p : Path) (b : Bounce) → check_bounce p m b ≡ check_bounce p (in_air m) b
  unfolding check_bounce
  check-same p b = rw h.check

  -- ---- the wavelengths that are left
  left-same : (kind : Kind) (lambda : Color) → m.kind ≡ kind → left_on kind m.eta m.outside lambda ≡ left_on kind m.eta air lambda
  unfolding left_on left_on_glass constant_eta
  left-same Metal lambda e = refl
  left-same Glass lambda e = ap (λ (b : Bool). cond b lambda (terminate lambda)) (h.constant e)

  lambda-same : (lambda : Color) → lambda_on m lambda ≡ lambda_on (in_air m) lambda
  unfolding lambda_on
  lambda-same lambda = left-same m.kind lambda refl

  -- ---- what is sampled
  module _ (lambda : Color) (b : Bounce) where
    eta-same : leading_index m lambda ≡ leading_index (in_air m) lambda
    unfolding leading_index
    eta-same = same_index m h _

    facet_on : (kind : Kind) → facet_of kind m lambda b ≡ facet_of kind (in_air m) lambda b
    unfolding facet_of
    facet_on Metal = refl
    facet_on Glass = rw eta-same

    facet-same : facet m lambda b ≡ facet (in_air m) lambda b
    unfolding facet
    facet-same = facet_on m.kind

    fresnel-same : (wavelength : Float) → fresnel_at m lambda b wavelength ≡ fresnel_at (in_air m) lambda b wavelength
    unfolding fresnel_at
    fresnel-same wavelength = rw (facet-same, same_index m h wavelength)

    share-same : share m lambda b ≡ share (in_air m) lambda b
    unfolding share
    share-same = fresnel-same _

    scatter-on : (kind : Kind) → scatter_on kind m lambda b ≡ scatter_on kind (in_air m) lambda b
    unfolding scatter_on
    scatter-on Metal = rw facet-same
    scatter-on Glass = rw (eta-same, share-same, facet-same)

    scatter-same : scatter m lambda b ≡ scatter (in_air m) lambda b
    unfolding scatter
    scatter-same = scatter-on m.kind

    -- ---- the weights
    one-direction : (kind : Kind) → one_direction kind m lambda ≡ one_direction kind (in_air m) lambda
    unfolding one_direction
    one-direction Metal = refl
    one-direction Glass = rw eta-same

    shadowing-same : (wi : Vec3) → shadowing_on m lambda b wi ≡ shadowing_on (in_air m) lambda b wi
    unfolding shadowing_on
    shadowing-same wi = rw (one-direction m.kind, facet-same)

    weight-same : (s : Scattered) (wavelength ks tf : Float) → weight_from s m lambda b wavelength ks tf ≡ weight_from s (in_air m) lambda b wavelength ks tf
    unfolding weight_from
    weight-same lost wavelength ks tf = refl
    weight-same totally wavelength ks tf = refl
    weight-same (scattered wi reflection) wavelength ks tf = rw (fresnel-same wavelength, shadowing-same wi)

    weights-same : weights m lambda b ≡ weights (in_air m) lambda b
    unfolding weights weights_from
    weights-same = rw scatter-same (all (scatter (in_air m) lambda b))
      where
        all : (s : Scattered) → weights_from s m lambda b ≡ weights_from s (in_air m) lambda b
        all s =
            rw (
              weight-same s lambda.s0 b.ks.s0 b.tf.s0,
              weight-same s lambda.s1 b.ks.s1 b.tf.s1,
              weight-same s lambda.s2 b.ks.s2 b.tf.s2,
              weight-same s lambda.s3 b.ks.s3 b.tf.s3,
            )

    -- ---- what is answered
    shares-same : shares m lambda b ≡ shares (in_air m) lambda b
    unfolding shares
    shares-same = rw share-same

    density-same : (wi : Vec3) (reflection : Bool) → density m lambda b wi reflection ≡ density (in_air m) lambda b wi reflection
    unfolding density
    density-same wi reflection = rw (h.density (local_wo b) wi reflection (leading lambda))

    worked_same : (s : Scattered) (next : Path) → worked s m lambda b next ≡ worked s (in_air m) lambda b next
    unfolding worked
    worked_same (scattered wi reflection) next = rw (density-same wi reflection, shares-same)
    worked_same lost next = rw shares-same
    worked_same totally next = rw shares-same

  advanced-same : (p : Path) (b : Bounce) → advanced p m b ≡ advanced p (in_air m) b
  unfolding advanced
  advanced-same p b = rw (lambda-same p.lambda, weights-same (lambda_on (in_air m) p.lambda) b)

  on_surface_same : (p : Path) (b : Bounce) → on_surface p m b ≡ on_surface p (in_air m) b
  unfolding on_surface
  on_surface_same p b =
      let lambda = lambda_on (in_air m) p.lambda in
      rw (advanced-same p b, lambda-same p.lambda, scatter-same lambda b) (worked_same lambda b (scatter (in_air m) lambda b) (advanced p (in_air m) b))

  bounce-same : (p : Path) (b : Bounce) → bounce p m b ≡ bounce p (in_air m) b
  unfolding bounce
  bounce-same p b = rw (check-same p b, on_surface_same p b)

  reckoned-same : (p : Path) (b : Bounce) → reckon p m b ≡ reckon p (in_air m) b
  unfolding reckon
  reckoned-same p b = rw (check-same p b, advanced-same p b)

  -- ---- many in one call
  at_same : (input : List Float) (n : ℕ) → bounced_at m input n ≡ bounced_at (in_air m) input n
  unfolding bounced_at bounced
  at_same input n = rw (bounce-same _ _)

  many-same : (input : List Float) (n : ℕ) → all_bounced m input n ≡ all_bounced (in_air m) input n
  unfolding all_bounced
  many-same input zero = refl
  many-same input (suc n) = rw (many-same input n, at_same input n)

pub bounce-in_air : InAir
unfolding InAir Optics.InAir
bounce-in_air s eta k outer beside =
    let m = microsurface s eta k outer in
    let h = in_air_lem s eta k outer beside in
    record { answer = bounce-same m h; reckoned = reckoned-same m h; many = many-same m h }
