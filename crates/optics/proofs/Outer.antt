-- The index of glass against what lies outside it: eta divided by the outer spectrum, rounded once.
-- Proved, for every surface whose spectra are accepted: the index at a wavelength from 360 to 830 is finite and from 1 / 2 ^ 14 to 2 ^ 14 (`index_in`), so that
-- all laws of glass hold of it. Each of the two that are divided lies from 1 / 2 ^ 7 to 2 ^ 7: what is read of the outer spectrum (`outer_read`) as what is read of eta.
use Rattle.std.proofs.Common.{◌≡◌, refl, ap, subst, Bool, true, false, ◌&&◌, cond, List, T, lit<, Float}
use lib.Ieee.{Format, binary64, eq, fits}
use lib.Ieee.Fits.{and_l, and_r, and_i}
use Rattle.floats.specs.Float.{◌⊘◌, f0, decimal}
use Rattle.numbers.specs.DenseSpectrum.{step_of, is_table, one_spacing, terminated, entry, sample_one_at, is_constant, all_within, is_wavelength}
use Rattle.numbers.proofs.dense_spectrum.Interpolation.{read_most, Read, Index, AllFit, first_index, not_terminated, wave_in_table}
use Rattle.numbers.proofs.dense_spectrum.Spacing.{shared_step}
use Rattle.optics.specs.Surface.{Kind, Metal, Glass, Outside, air, medium, Microsurface, eta_min, eta_max, eta_holds, outer_holds, eta_from, eta_at, outer_at, quotient, index_on, index_at}
use Rattle.optics.proofs.Fresnel.{quotient-index}
use Rattle.optics.specs.F64.{OuterF64}
use Rattle.optics.proofs.Spectra.{all_fit, max_is, eta_read, eta-index}

abbrev B : Format
B = binary64

-- every entry of the outer spectrum is a value of the format
unfoldable pub OuterFit : Outside → Type 0
OuterFit air = Unit
OuterFit (medium outer) = AllFit outer

pub outer_fit : (outside : Outside) → OuterF64 outside → OuterFit outside
unfolding OuterF64 OuterFit
outer_fit air h = tt
outer_fit (medium outer) h = all_fit outer h

-- ---- the outer spectrum
-- it is held to what eta is held to
as_eta : (eta outer : List Float) → T (outer_holds Glass eta (medium outer)) → T (one_spacing eta outer) × T (eta_holds outer)
unfolding eta_holds outer_holds
as_eta eta outer h =
    let table = and_l (is_table outer) (one_spacing eta outer) (and_l (is_table outer && one_spacing eta outer) (all_within eta_min eta_max outer) h) in
    let spacing = and_r (is_table outer) (one_spacing eta outer) (and_l (is_table outer && one_spacing eta outer) (all_within eta_min eta_max outer) h) in
    (spacing, and_i (is_table outer) (all_within eta_min eta_max outer) table (and_r (is_table outer && one_spacing eta outer) (all_within eta_min eta_max outer) h))

first_read : (outer : List Float) → AllFit outer → T (eta_holds outer) → Read (entry outer 0)
unfolding eta_holds eta_min
first_read outer all holds =
    let table = and_l (is_table outer) (all_within (decimal 1 100) eta_max outer) holds in
    let limits = and_r (is_table outer) (all_within (decimal 1 100) eta_max outer) holds in
    first_index outer table all (subst (λ (hi : Float). T (all_within (decimal 1 100) hi outer)) max_is limits)

-- eta's spacing is its own
pub outer_own : (eta outer : List Float) (lambda : Float) → T (one_spacing eta outer) → sample_one_at (step_of eta) outer lambda ≡ eta_at outer lambda
unfolding eta_at eta_from
outer_own eta outer lambda spacing = ap (λ (step : Float). sample_one_at step outer lambda) (shared_step eta outer spacing)

outer_read : (eta outer : List Float) (lambda : Float) → AllFit outer → T (outer_holds Glass eta (medium outer)) → T (fits B lambda) → T (is_wavelength lambda)
    → Read (outer_at eta outer lambda)
unfolding outer_at
outer_read eta outer lambda all h f w = go (is_constant outer)
  where
    o : T (one_spacing eta outer) × T (eta_holds outer)
    o = as_eta eta outer h

    go : (constant : Bool) → Read (cond constant (entry outer 0) (sample_one_at (step_of eta) outer lambda))
    go true = first_read outer all o.1
    go false = rw (outer_own eta outer lambda o.0) (eta_read outer lambda all o.1 f w)

-- ---- the index
quotient_in : (lambda eta outer : Float) → Read eta → Read outer → T (fits B lambda) → T (is_wavelength lambda) → Index (quotient lambda eta outer)
unfolding quotient
quotient_in lambda eta outer e o f w = go (eq lambda terminated) (not_terminated lambda f (wave_in_table lambda w))
  where
    go : (b : Bool) → (T b → ⊥) → Index (cond b f0 (eta ⊘ outer))
    go true n = absurd (n tt)
    go false n = quotient-index read_most read_most eta outer (lit< tt) refl e o

on_in : (kind : Kind) (eta : List Float) (outside : Outside) (lambda : Float) → AllFit eta → OuterFit outside → T (eta_holds eta) → T (outer_holds kind eta outside)
    → T (fits B lambda) → T (is_wavelength lambda) → Index (index_on kind eta outside lambda)
unfolding index_on OuterFit
on_in Metal eta outside lambda fits-eta fits-outer holds h f w = eta-index eta lambda fits-eta holds f w
on_in Glass eta air lambda fits-eta fits-outer holds h f w = eta-index eta lambda fits-eta holds f w
on_in Glass eta (medium outer) lambda fits-eta fits-outer holds h f w =
    quotient_in lambda (eta_at eta lambda) (outer_at eta outer lambda) (eta_read eta lambda fits-eta holds f w) (outer_read eta outer lambda fits-outer h f w) f w

pub index_in : (m : Microsurface) (lambda : Float) → AllFit m.eta → OuterFit m.outside → T (eta_holds m.eta) → T (outer_holds m.kind m.eta m.outside)
    → T (fits B lambda) → T (is_wavelength lambda) → Index (index_at m lambda)
unfolding index_at
index_in m lambda fits-eta fits-outer holds h f w = on_in m.kind m.eta m.outside lambda fits-eta fits-outer holds h f w
