-- A surface of metal or glass, what it may hold, and its spectra at a wavelength (document 01, "Records"; lumo's `MicrofacetConfig`). Definitions only.
use Rattle.std.specs.Prelude.{ℕ, Float, pos, eqb, leb, Result, Ok, Err, Bool, true, false, ◌&&◌, ◌||◌, cond, List}
use Rattle.std.specs.Float.{nan, fin}
use Rattle.std.specs.Float.Ieee.{eq}
use Rattle.floats.specs.Float.{◌⊘◌, f0, f1, decimal, max, within}
use Rattle.numbers.specs.DenseSpectrum.{step_of, is_table, one_spacing, terminated, entry, sample_one_at, is_constant, all_within}
use Rattle.numbers.specs.Vec2.{splat}
use Rattle.numbers.specs.declared.vec2.Vec2.{Vec2}
pub use Rattle.optics.specs.declared.microfacet.{Kind.Kind, Kind.TheVariants.Metal, Kind.TheVariants.Glass, UnknownKind.UnknownKind, Surface.Surface}

-- ---- a kind's code, wherever a kind is a number: 0 metal, 1 glass (02 (vi) has the same)
unfoldable pub kind_code : Kind → ℕ
kind_code Metal = 0
kind_code Glass = 1

abbrev pub is_kind_code : ℕ → Bool
is_kind_code code = leb code 1

-- a number that is none reads as glass: who takes one refuses it
unfoldable pub kind_of : ℕ → Kind
kind_of code = cond (eqb code 0) Metal Glass

-- the kind of a code, if it is one
unfoldable pub kind_read : ℕ → Result Kind UnknownKind
kind_read code = cond (is_kind_code code) (Ok (kind_of code)) (Err record {})

-- What lies outside glass: a medium by its refraction index, the outer spectrum (02 (iv)). `air` is 01's, which has no spectrum; no code has it, and a spectrum of
-- ones is the same (`InAir`, specs/Air.antt).
pub data Outside : Type 0 where
  air : Outside
  medium : List Float → Outside

-- A surface with its spectra: the refraction index eta and the absorption coefficient k; and what lies outside, which metal doesn't read.
pub record Microsurface : Type 0 where
  pub kind : Kind
  pub roughness : Vec2
  pub eta : List Float
  pub k : List Float
  pub outside : Outside

abbrev pub microsurface : Surface → List Float → List Float → List Float → Microsurface
microsurface s eta k outer = record { kind = s.kind; roughness = s.roughness; eta = eta; k = k; outside = medium outer }

-- the same surface with something else outside
abbrev pub beside : Outside → Microsurface → Microsurface
beside outside m = record { kind = m.kind; roughness = m.roughness; eta = m.eta; k = m.k; outside = outside }

-- ---- limits, each in this one place
unfoldable pub roughness_min : Float
roughness_min = decimal 1 100000

unfoldable pub is_roughness : Float → Bool
is_roughness a = within roughness_min f1 a

unfoldable pub eta_min : Float
eta_min = decimal 1 100

abbrev pub eta_max : Float
eta_max = fin false 25 (pos 2)

unfoldable pub k_min : Float
k_min = decimal 1 1000000

abbrev pub k_max : Float
k_max = fin false 25 (pos 2)

-- the index of a lone bend, held to the limits of eta's entries
unfoldable pub is_eta : Float → Bool
is_eta eta = within eta_min eta_max eta

-- ---- the fields of a surface
unfoldable pub roughness_holds : Vec2 → Bool
roughness_holds a = is_roughness a.x && is_roughness a.y

unfoldable pub eta_holds : List Float → Bool
eta_holds eta = is_table eta && all_within eta_min eta_max eta

-- every entry from 0 to 0, which is zero of either sign
unfoldable pub all_zero : List Float → Bool
all_zero k = all_within f0 f0 k

-- k is all zero, or on metal within its limits
unfoldable pub k_entries_hold : Kind → List Float → Bool
k_entries_hold Metal k = all_zero k || all_within k_min k_max k
k_entries_hold Glass k = all_zero k

-- eta and k share one spacing (02 (i))
unfoldable pub k_holds : Kind → List Float → List Float → Bool
k_holds kind eta k = is_table k && one_spacing eta k && k_entries_hold kind k

-- glass's outer spectrum has eta's spacing, so it is a table where 2 hasn't refused eta, and eta's limits (02 (iv)); metal has none, so nothing is asked of what is lent
-- beside it
unfoldable pub outer_holds : Kind → List Float → Outside → Bool
outer_holds Metal eta outside = true
outer_holds Glass eta air = true
outer_holds Glass eta (medium outer) = is_table outer && one_spacing eta outer && all_within eta_min eta_max outer

-- ---- the spectra at a wavelength: the one place where they are read, and where eta counts as constant
-- from the step that a surface's spectra share
unfoldable pub eta_from : Float → List Float → Float → Float
eta_from step eta lambda = sample_one_at step eta lambda

unfoldable pub k_from : Float → List Float → Float → Float
k_from step k lambda = sample_one_at step k lambda

-- which eta tells; on every surface that is accepted it is k's own too (`k_own`, proofs/Spectra.antt)
unfoldable pub eta_at : List Float → Float → Float
eta_at eta lambda = eta_from (step_of eta) eta lambda

unfoldable pub k_at : List Float → List Float → Float → Float
k_at eta k lambda = k_from (step_of eta) k lambda

-- the outer spectrum, at eta's spacing as well: a constant one gives its entry between grid points too
unfoldable pub outer_at : List Float → List Float → Float → Float
outer_at eta outer lambda = cond (is_constant outer) (entry outer 0) (sample_one_at (step_of eta) outer lambda)

-- eta divided by the outer index, rounded once, and 0.0 at a wavelength that was ended
unfoldable pub quotient : Float → Float → Float → Float
quotient lambda eta outer = cond (eq lambda terminated) f0 (eta ⊘ outer)

-- the index at a wavelength: of glass in a medium that quotient; in air, and on metal, eta
unfoldable pub index_on : Kind → List Float → Outside → Float → Float
index_on Metal eta outside lambda = eta_at eta lambda
index_on Glass eta air lambda = eta_at eta lambda
index_on Glass eta (medium outer) lambda = quotient lambda (eta_at eta lambda) (outer_at eta outer lambda)

unfoldable pub index_at : Microsurface → Float → Float
index_at m lambda = index_on m.kind m.eta m.outside lambda

-- eta counts as constant only if the outer spectrum is constant too
unfoldable pub constant_eta : List Float → Outside → Bool
constant_eta eta air = is_constant eta
constant_eta eta (medium outer) = is_constant eta && is_constant outer

-- ---- a surface from one number: from 0 to 1, raised to the least roughness
unfoldable pub is_roughness_given : Float → Bool
is_roughness_given r = within f0 f1 r

abbrev pub raised : Float → Float
raised r = max r roughness_min

unfoldable pub surface : Kind → Float → Surface
surface kind r = record { kind = kind; roughness = splat (raised r) }

-- of a number in the place of a kind: where it is none, a roughness that no check accepts, so that its surface is refused as 1
unfoldable pub roughness_of : ℕ → Float → Float
roughness_of code r = cond (is_kind_code code) r nan
