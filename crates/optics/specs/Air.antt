-- Air outside glass: an outer spectrum of ones changes nothing of what 01 has, where there is none (02 (iv): "With an outer spectrum of ones the Rust's figures must
-- still appear"). Definitions only; `InAir` is proved in proofs/Air.antt, and the crates above say the same of what they answer.
use Rattle.std.specs.Prelude.{T, Float, ◌≡◌, Bool, List}
use Rattle.floats.specs.Float.{f1}
use Rattle.numbers.specs.DenseSpectrum.{one_spacing, is_constant, all_within}
use Rattle.numbers.specs.declared.vec3.Vec3.{Vec3}
use Rattle.optics.specs.F64.{AllF64}
use Rattle.optics.specs.Color.{Color}
use Rattle.numbers.specs.Refusal.{refuse, ◌then◌}
use Rattle.optics.specs.Surface.{Kind, Metal, Glass, Surface, air, Microsurface, microsurface, eta_holds, k_holds, eta_at, index_at, constant_eta}
use Rattle.optics.specs.Check.{check_spectra, check_surface}
use Rattle.optics.specs.Fresnel as Fresnel
use Rattle.optics.specs.Density as Density

-- every entry from 1 to 1, which is 1.0 ((vi) asks it of a surface to be written)
unfoldable pub all_ones : List Float → Bool
all_ones outer = all_within f1 f1 outer

-- an outer spectrum of ones, of eta's spacing
pub record OnesBeside (eta outer : List Float) : Type 0 where
  pub eta_f64 : AllF64 eta
  pub outer_f64 : AllF64 outer
  pub spacing : T (one_spacing eta outer)
  pub ones : T (all_ones outer)

-- what is to be lent for air: that beside glass, and beside metal, which has no outer spectrum, anything
unfoldable pub AirBeside : Kind → List Float → List Float → Type 0
AirBeside Metal eta outer = Unit
AirBeside Glass eta outer = OnesBeside eta outer

-- the same surface as 01 has it, without an outer spectrum
abbrev pub in_air : Microsurface → Microsurface
in_air m = record { kind = m.kind; roughness = m.roughness; eta = m.eta; k = m.k; outside = air }

-- 01's reading of eta, at every wavelength, one that was ended included; whether it is constant, which is asked of glass; then 01's refusals, so never 13, Fresnel terms
-- and densities
pub record SameInAir (m : Microsurface) : Type 0 where
  pub index : (lambda : Float) → index_at m lambda ≡ eta_at m.eta lambda
  pub constant : m.kind ≡ Glass → constant_eta m.eta m.outside ≡ is_constant m.eta
  pub spectra : check_spectra m.kind m.eta m.k m.outside ≡ (refuse 2 (eta_holds m.eta) then refuse 3 (k_holds m.kind m.eta m.k))
  pub check : check_surface m ≡ check_surface (in_air m)
  pub fresnel : (wo wh : Vec3) (lambda : Color)
      → Fresnel.f m.kind m.eta m.k m.outside wo wh lambda ≡ Fresnel.f m.kind m.eta m.k air wo wh lambda
  pub density : (wo wi : Vec3) (reflection : Bool) (lambda : Float)
      → Density.pdf m wo wi reflection lambda ≡ Density.pdf (in_air m) wo wi reflection lambda

unfoldable pub InAir : Type 0
InAir = (s : Surface) (eta k outer : List Float) → AirBeside s.kind eta outer → SameInAir (microsurface s eta k outer)
