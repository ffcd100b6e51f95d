-- A weight is a number from 0 to 1 (`Weight`), and a power times a weight is a number from 0 to what the power was (`weighed_down`).
-- Each weight of a bounce is one (`weight_from_lem`), where the shadowing q is one: products of weights are weights, F is a NaN or not below 0, and the metal's share of it is cut to 1.
use Rattle.std.proofs.Common.{◌≡◌, Bool, true, false, cond, T, sym, refl, subst}
use lib.Ieee.{Float, binary64, fits, is_nan, le, eq}
use lib.Ieee.Fits.{mul-fits}
use lib.Ieee.Scale.{finite}
use Rattle.floats.specs.Float.{◌⊗◌, f0, f1}
use Rattle.numbers.specs.DenseSpectrum.{terminated}
use Rattle.numbers.specs.declared.vec3.Vec3.{Vec3}
use Rattle.floats.proofs.Rounding.Units.{is_finite_lem}
use Rattle.floats.proofs.Rounding.NonNegative.{share_of}
use Rattle.floats.proofs.Rounding.Shares as Shares
use Rattle.floats.proofs.Rounding.Monotone.{le_trans-fits}
use Rattle.optics.specs.Surface.{Microsurface, index_at, k_at}
use Rattle.optics.specs.Bxdf.{Scattered, scattered, lost, totally}
use Rattle.optics.specs.declared.color.Color.{Color}
use Rattle.optics.specs.declared.microfacet.Kind.{Kind}
use Rattle.optics.specs.declared.microfacet.Kind.TheVariants.{Metal, Glass}
use Rattle.optics.proofs.Glass.{share-fits}
use Rattle.optics.proofs.FresnelSign.{fresnel_not_below}
use Rattle.floats.proofs.Rounding.Signs.{NotNegative, at_most_one}
use Rattle.path.specs.declared.records.Bounce.{Bounce}
use Rattle.path.specs.Bounce.{local_wo, facet, fresnel_at, shadowing_on, metal_share, metal_filter, filter, weight, weight_from}

pub record Weight (x : Float) : Type 0 where
  pub fits_x : T (fits binary64 x)
  pub low : T (le f0 x)
  pub high : T (le x f1)

pub none : Weight f0
unfolding fits le
none = record { fits_x = tt; low = tt; high = tt }

pub whole : Weight f1
unfolding fits le
whole = record { fits_x = tt; low = tt; high = tt }

finite_of : (x : Float) → Weight x → T (finite x)
finite_of x w = let s = share_of x w.fits_x w.low w.high in is_finite_lem x s.1.0 s.0 s.1.1

-- ---- a product
pub weighed_down : (p w : Float) → Weight p → Weight w → Weight (p ⊗ w) × T (le (p ⊗ w) p)
weighed_down p w a b =
    let h = Shares.weight p w a.fits_x b.fits_x a.low (finite_of p a) b.low b.high in
    let f = mul-fits binary64 p w in
    (record { fits_x = f; low = h.1; high = le_trans-fits (p ⊗ w) p f1 f a.fits_x whole.fits_x h.2 a.high }, h.2)

times : (p w : Float) → Weight p → Weight w → Weight (p ⊗ w)
times p w a b = (weighed_down p w a b).0

-- ---- the metal's share of F, which may be NaN or above 1
metal_share_lem : (F : Float) → T (fits binary64 F) → NotNegative F → Weight (metal_share F)
unfolding metal_share
metal_share_lem F f h = go (is_nan F) (le F f1) refl
  where
    go : (n l : Bool) → le F f1 ≡ l → Weight (cond n f0 (cond l F f1))
    go true l e = none
    go false false e = whole
    go false true e = let s = at_most_one F h (subst T (sym e) tt) in record { fits_x = f; low = s.1; high = s.2 }

-- ---- the weight of a wavelength
filter-weight : (kind : Kind) (reflection : Bool) (F ks tf : Float) → T (fits binary64 F) → NotNegative F → Weight ks → Weight tf
    → Weight (filter kind reflection F ks tf)
unfolding filter metal_filter
filter-weight Metal reflection F ks tf f n x y = times ks (metal_share F) x (metal_share_lem F f n)
filter-weight Glass true F ks tf f n x y = x
filter-weight Glass false F ks tf f n x y = y

-- the filter of the branch that was taken, on metal with its share of F, is a weight
pub taken-weight : (m : Microsurface) (lambda : Color) (b : Bounce) (wavelength : Float) (reflection : Bool) (ks tf : Float) → Weight ks → Weight tf
    → Weight (filter m.kind reflection (fresnel_at m lambda b wavelength) ks tf)
unfolding fresnel_at
taken-weight m lambda b wavelength reflection ks tf x y =
    filter-weight m.kind reflection (fresnel_at m lambda b wavelength) ks tf (share-fits wo wh eta k) (fresnel_not_below wo wh eta k) x y
  where
    wo : Vec3
    wo = local_wo b

    wh : Vec3
    wh = facet m lambda b

    eta : Float
    eta = index_at m wavelength

    k : Float
    k = k_at m.eta m.k wavelength

pub weight_from_lem : (s : Scattered) (m : Microsurface) (lambda : Color) (b : Bounce) (wavelength ks tf : Float)
    → ((wi : Vec3) (reflection : Bool) → s ≡ scattered wi reflection → Weight (shadowing_on m lambda b wi))
    → Weight ks → Weight tf
    → Weight (weight_from s m lambda b wavelength ks tf)
unfolding weight_from weight
weight_from_lem lost m lambda b wavelength ks tf q x y = none
weight_from_lem totally m lambda b wavelength ks tf q x y = none
weight_from_lem (scattered wi reflection) m lambda b wavelength ks tf q x y = go (eq wavelength terminated)
  where
    taken : Float
    taken = filter m.kind reflection (fresnel_at m lambda b wavelength) ks tf

    go : (z : Bool) → Weight (cond z f0 (taken ⊗ shadowing_on m lambda b wi))
    go true = none
    go false = times taken (shadowing_on m lambda b wi) (taken-weight m lambda b wavelength reflection ks tf x y) (q wi reflection refl)
