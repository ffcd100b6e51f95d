-- What is sampled at an accepted bounce: local wo and the facet's normal are finite and near unit length (`local_wo_lem`, `facet_unitary`), a bend never answers "total" (`never_total`),
-- a sampled direction is finite (`direction_span`), so that the shadowing q is a weight (`shadowing-weight`), and on glass the shares lie from 0 to 1 and add up to 1 exactly (`shares_hold`).
-- Each is a law of optics, for the fields that the checks passed.
use Rattle.std.proofs.Common.{◌≡◌, Bool, true, false, cond, T, List, refl, subst, lit≤}
use lib.Ieee.{Float, binary64, fits, lt, le, eq}
use lib.Ieee.Fits.{and_r, cond-fits, div-fits}
use lib.Ieee.Scale.{finite}
use Rattle.floats.specs.Float.{◌⊘◌, f0, f1}
use Rattle.numbers.specs.Vec3.{Z}
use Rattle.numbers.specs.DenseSpectrum.{is_wavelength, is_lookup_wavelength}
use Rattle.numbers.specs.declared.vec3.Vec3.{Vec3}
use Rattle.numbers.proofs.vec3.Direction.{Direction}
use Rattle.numbers.proofs.dense_spectrum.Interpolation.{Index}
use Rattle.optics.specs.Surface.{Outside, Microsurface, constant_eta, k_at, k_holds}
use Rattle.optics.specs.Facets.{is_delta, g1, g, g_over_g1}
use Rattle.optics.specs.Sampler.{sample_normal}
use Rattle.optics.specs.Bxdf.{Scattered, scattered, lost, totally, conductor_normal, conductor_from, is_smooth, dielectric_normal}
use Rattle.optics.specs.Check.{is_random}
use Rattle.optics.specs.declared.color.Color.{Color}
use Rattle.optics.specs.declared.microfacet.Kind.{Kind}
use Rattle.optics.specs.declared.microfacet.Kind.TheVariants.{Metal, Glass}
use Rattle.numbers.proofs.vec3.Span.{Span, widen3}
use Rattle.floats.proofs.Rounding.Units.{each}
use Rattle.optics.proofs.SampledNormal.{Rough, Disk, Local, local_of, local_span, Unitary, sampled-normal, z_unitary}
use Rattle.optics.proofs.Fresnel.{reach}
use Rattle.optics.proofs.Glass.{Shares, glass-shares, glass_never_total, glass-direction, metal-outcome, Outcome}
use Rattle.optics.proofs.Shadowing.{weight-share}
use Rattle.optics.proofs.Spectra.{all_fit, glass-k-zero}
use Rattle.optics.proofs.Outer.{outer_fit, index_in}
use Rattle.path.specs.declared.records.Path.{Path}
use Rattle.path.specs.declared.records.Bounce.{Bounce}
use Rattle.path.specs.Path.{leading, terminate, is_path_lambda}
use Rattle.path.specs.Bounce.{left_on_glass, left_on, lambda_on, local_wo, leading_index, facet_of, facet, fresnel_at, share, scatter_on, scatter, one_direction, along_wall, shadowing, shadowing_on}
use Rattle.path.specs.Demand3.{ColorF64, StepF64}
use Rattle.path.proofs.Checks.{Accepted}
use Rattle.path.proofs.Weights.{Weight, none, whole}

-- ---- the leading wavelength stays
leading_left : (kind : Kind) (eta : List Float) (outside : Outside) (lambda : Color) → leading (left_on kind eta outside lambda) ≡ leading lambda
unfolding left_on left_on_glass leading terminate
leading_left Metal eta outside lambda = refl
leading_left Glass eta outside lambda = go (constant_eta eta outside)
  where
    go : (constant : Bool) → leading (cond constant lambda (terminate lambda)) ≡ leading lambda
    go true = refl
    go false = refl

leading_stays : (m : Microsurface) (lambda : Color) → leading (lambda_on m lambda) ≡ leading lambda
unfolding lambda_on
leading_stays m lambda = leading_left m.kind m.eta m.outside lambda

in_range : (lambda : Color) → T (is_path_lambda lambda) → T (is_wavelength (leading lambda))
unfolding is_path_lambda leading
in_range lambda t = (each (is_wavelength lambda.s0) (is_lookup_wavelength lambda.s1) (is_lookup_wavelength lambda.s2) (is_lookup_wavelength lambda.s3) t).0

-- ---- a bounce that was accepted, on a path and with arguments of binary64
pub record Given (p : Path) (m : Microsurface) (b : Bounce) : Type 0 where
  pub step : StepF64 (record { surface = m; bounce = b })
  pub lambda : ColorF64 p.lambda
  pub ok : Accepted p m b

module _ (p : Path) (m : Microsurface) (b : Bounce) (h : Given p m b) where
  -- the leading wavelength
  pub leading-fits : T (fits binary64 (leading (lambda_on m p.lambda)))
  unfolding leading
  leading-fits = rw (leading_stays m p.lambda) h.lambda.0

  pub leading_in : T (is_wavelength (leading (lambda_on m p.lambda)))
  leading_in = rw (leading_stays m p.lambda) (in_range p.lambda h.ok.lambda)

  -- the directions, the roughness and the random numbers, as optics' laws take them
  wo-direction : Direction b.wo
  wo-direction = record { fits_x = h.step.wo.0; fits_y = h.step.wo.1; fits_z = h.step.wo.2; test = h.ok.wo }

  normal-direction : Direction b.normal
  normal-direction = record { fits_x = h.step.normal.0; fits_y = h.step.normal.1; fits_z = h.step.normal.2; test = h.ok.normal }

  rough : Rough m.roughness
  rough = record { fits_x = h.step.roughness_x; fits_y = h.step.roughness_y; test = h.ok.roughness }

  disk : Disk b.disk b.c b.s
  disk = record { fits_disk = h.step.disk; fits_c = h.step.c; fits_s = h.step.s; number = h.ok.disk; pair = h.ok.pair }

  -- local wo, and the facet's normal
  pub local_wo_lem : Local (local_wo b)
  unfolding local_wo
  local_wo_lem = local_of b.normal b.wo normal-direction wo-direction

  sampled : Unitary (sample_normal m.roughness (local_wo b) b.disk b.c b.s)
  sampled = sampled-normal m.roughness (local_wo b) b.disk b.c b.s rough local_wo_lem disk

  or_z : (z : Bool) → Unitary (cond z Z (sample_normal m.roughness (local_wo b) b.disk b.c b.s))
  or_z true = z_unitary
  or_z false = sampled

  facet_on : (kind : Kind) → Unitary (facet_of kind m (lambda_on m p.lambda) b)
  unfolding facet_of conductor_normal dielectric_normal
  facet_on Metal = or_z (is_delta m.roughness)
  facet_on Glass = or_z (is_smooth m.roughness (leading_index m (lambda_on m p.lambda)))

  pub facet_unitary : Unitary (facet m (lambda_on m p.lambda) b)
  unfolding facet
  facet_unitary = facet_on m.kind

  -- the index at the leading wavelength, and k, which glass has none of
  index : Index (leading_index m (lambda_on m p.lambda))
  unfolding leading_index
  index =
      index_in m (leading (lambda_on m p.lambda)) (all_fit m.eta h.step.eta) (outer_fit m.outside h.step.outer) h.ok.eta h.ok.outer leading-fits leading_in

  no_k : m.kind ≡ Glass → T (eq (k_at m.eta m.k (leading (lambda_on m p.lambda))) f0)
  no_k g =
      glass-k-zero m.eta m.k (leading (lambda_on m p.lambda)) (all_fit m.k h.step.k)
      (subst (λ (kind : Kind). T (k_holds kind m.eta m.k)) g h.ok.k) leading-fits leading_in

  below_one : T (lt b.u f1)
  unfolding is_random
  below_one = and_r (le f0 b.u) (lt b.u f1) h.ok.u

  -- ---- glass: the shares
  pub shares_hold : m.kind ≡ Glass → Shares (share m (lambda_on m p.lambda) b)
  unfolding share fresnel_at leading_index
  shares_hold g =
      let lambda = lambda_on m p.lambda in
      glass-shares (local_wo b) (facet m lambda b) (leading_index m lambda) (k_at m.eta m.k (leading lambda)) local_wo_lem facet_unitary index (no_k g)

  -- ---- metal: a backface loses the light
  metal-scattered : Outcome (scatter_on Metal m (lambda_on m p.lambda) b)
  unfolding scatter_on
  metal-scattered = go b.backface
    where
      go : (back : Bool) → Outcome (cond back lost (conductor_from m.roughness (local_wo b) (facet m (lambda_on m p.lambda) b)))
      go true = tt
      go false = metal-outcome m.roughness (local_wo b) (facet m (lambda_on m p.lambda) b) local_wo_lem facet_unitary

  -- ---- a bend never answers "total"
  never_on : (kind : Kind) → m.kind ≡ kind → scatter_on kind m (lambda_on m p.lambda) b ≡ totally → ⊥
  unfolding scatter_on share fresnel_at leading_index
  never_on Metal e t = subst (λ (s : Scattered). Outcome s) t metal-scattered
  never_on Glass e t =
      let lambda = lambda_on m p.lambda in
      glass_never_total (leading_index m lambda) (k_at m.eta m.k (leading lambda)) b.u (local_wo b) (facet m lambda b) index (no_k e) below_one local_wo_lem facet_unitary t

  pub never_total : scatter m (lambda_on m p.lambda) b ≡ totally → ⊥
  unfolding scatter
  never_total t = never_on m.kind refl t

  -- ---- a sampled direction is finite
  span_on : (kind : Kind) → m.kind ≡ kind → (wi : Vec3) (reflection : Bool) → scatter_on kind m (lambda_on m p.lambda) b ≡ scattered wi reflection → Span reach wi
  unfolding scatter_on share fresnel_at leading_index
  span_on Metal e wi reflection t = subst (λ (s : Scattered). Outcome s) t metal-scattered
  span_on Glass e wi reflection t =
      let lambda = lambda_on m p.lambda in
      glass-direction (leading_index m lambda) (k_at m.eta m.k (leading lambda)) b.u (local_wo b) (facet m lambda b) wi reflection index (no_k e) below_one local_wo_lem facet_unitary t

  pub direction_span : (wi : Vec3) (reflection : Bool) → scatter m (lambda_on m p.lambda) b ≡ scattered wi reflection → Span reach wi
  unfolding scatter
  direction_span wi reflection t = span_on m.kind refl wi reflection t

  -- ---- the shadowing q
  q-fits : (wi : Vec3) → T (fits binary64 (g_over_g1 m.roughness (local_wo b) wi (facet m (lambda_on m p.lambda) b)))
  unfolding g_over_g1 fits
  q-fits wi =
      let wh = facet m (lambda_on m p.lambda) b in
      let first = g1 m.roughness (local_wo b) wh in
      let both = g m.roughness (local_wo b) wi wh in
      cond-fits binary64 (eq first f0) f0 (both ⊘ first) tt (div-fits binary64 both first)

  pub shadowing-weight : (wi : Vec3) (reflection : Bool) → scatter m (lambda_on m p.lambda) b ≡ scattered wi reflection
      → Weight (shadowing_on m (lambda_on m p.lambda) b wi)
  unfolding shadowing_on shadowing
  shadowing-weight wi reflection t = go (one_direction m.kind m (lambda_on m p.lambda)) (along_wall wi)
    where
      q : Float
      q = g_over_g1 m.roughness (local_wo b) wi (facet m (lambda_on m p.lambda) b)

      s : T (finite q) × T (le f0 q) × T (le q f1)
      s = weight-share m.roughness (local_wo b) wi (facet m (lambda_on m p.lambda) b) rough (widen3 8 reach (local_wo b) (lit≤ tt) (local_span (local_wo b) local_wo_lem)) (direction_span wi reflection t)

      go : (one wall : Bool) → Weight (cond one f1 (cond wall f0 q))
      go true wall = whole
      go false true = none
      go false false = record { fits_x = q-fits wi; low = s.1; high = s.2 }
