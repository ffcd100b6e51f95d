-- What document 01 asks of an argument, and the number of its refusal ("At the counter"). Definitions only.
use Rattle.std.specs.Prelude.{Float, Bool, ◌&&◌, List}
use Rattle.std.specs.Float.Ieee.{lt, le}
use Rattle.floats.specs.Float.{◌⊕◌, ◌⊗◌, f0, f1, f_1, decimal, within}
use Rattle.numbers.specs.DenseSpectrum.{is_lookup_wavelength}
use Rattle.numbers.specs.Refusal.{Verdict, refuse, ◌then◌}
use Rattle.optics.specs.Surface.{Kind, Outside, Microsurface, roughness_holds, eta_holds, k_holds, outer_holds, is_eta}
use Rattle.optics.specs.Color.{Color, all4}

-- what a surface holds beside its roughness: 2 eta; 3 k and, on glass, 13 the outer spectrum, a length unlike eta's included
unfoldable pub check_spectra : Kind → List Float → List Float → Outside → Verdict
check_spectra kind eta k outside = refuse 2 (eta_holds eta) then refuse 3 (k_holds kind eta k) then refuse 13 (outer_holds kind eta outside)

-- the fields of a surface: 1 roughness, then its spectra
unfoldable pub check_surface : Microsurface → Verdict
check_surface m = refuse 1 (roughness_holds m.roughness) then check_spectra m.kind m.eta m.k m.outside

-- the index of a lone bend
unfoldable pub check_eta : Float → Verdict
check_eta eta = refuse 2 (is_eta eta)

-- wavelengths as in a lookup: 0 is accepted
unfoldable pub check_lookups : Color → Verdict
check_lookups lambda = refuse 4 (all4 is_lookup_wavelength lambda)

-- a random number: from 0 to below 1
unfoldable pub is_random : Float → Bool
is_random u = le f0 u && lt u f1

unfoldable pub check_random : Float → Verdict
check_random u = refuse 6 (is_random u)

-- a point of the circle: each part from -1 to 1, and c·c + s·s, computed, from 1 - 1e-12 to 1 + 1e-12
unfoldable pub is_circle_pair : Float → Float → Bool
is_circle_pair c s =
    within f_1 f1 c && within f_1 f1 s
    && within (decimal 999999999999 1000000000000) (decimal 1000000000001 1000000000000) (c ⊗ c ⊕ s ⊗ s)

unfoldable pub check_circle_pair : Float → Float → Verdict
check_circle_pair c s = refuse 7 (is_circle_pair c s)
