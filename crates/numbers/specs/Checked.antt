-- What the functions that refuse answer, by document 01's numbers ("At the counter"). Definitions only.
use Rattle.std.specs.Prelude.{Bool, ◌&&◌, List, Float}
use Rattle.numbers.specs.Refusal.{Verdict, refuse, ◌then◌, Answer, given, ◌▷◌}
use Rattle.numbers.specs.Vec3.{Vec3, is_direction}
use Rattle.numbers.specs.Onb.{basis, to_local, to_world}
use Rattle.numbers.specs.SphericalUtils.{same_hemisphere}
use Rattle.numbers.specs.DenseSpectrum.{is_table, all_finite, is_wavelength, is_lookup_wavelength, sample_one}

-- ---- checks of one argument
-- a direction: 5
unfoldable pub check_direction : Vec3 → Verdict
check_direction w = refuse 5 (is_direction w)

-- a spectrum's values: 2 for a length other than 95 or 471, or an entry that isn't finite
unfoldable pub table_holds : List Float → Bool
table_holds values = is_table values && all_finite values

unfoldable pub check_table : List Float → Verdict
check_table values = refuse 2 (table_holds values)

-- a wavelength that is not ended: 4
unfoldable pub check_wavelength : Float → Verdict
check_wavelength lambda = refuse 4 (is_wavelength lambda)

-- a wavelength as in a lookup, where 0 is accepted: 4
unfoldable pub check_lookup : Float → Verdict
check_lookup lambda = refuse 4 (is_lookup_wavelength lambda)

-- ---- lookup
unfoldable pub lookup : List Float → Float → Answer Float
lookup values lambda = check_table values then check_lookup lambda ▷ given (sample_one values lambda)

-- ---- what takes one direction, or two
abbrev pub of_direction : {A : Type 0} → (Vec3 → A) → Vec3 → Answer A
of_direction f w = check_direction w ▷ given (f w)

abbrev pub of_directions : {A : Type 0} → (Vec3 → Vec3 → A) → Vec3 → Vec3 → Answer A
of_directions f v w = check_direction v then check_direction w ▷ given (f v w)

-- the direction, then the normal
unfoldable pub change_to_local : Vec3 → Vec3 → Answer Vec3
change_to_local v normal = of_directions (λ v n. to_local (basis n) v) v normal

unfoldable pub change_to_world : Vec3 → Vec3 → Answer Vec3
change_to_world v normal = of_directions (λ v n. to_world (basis n) v) v normal

unfoldable pub hemisphere : Vec3 → Vec3 → Answer Bool
hemisphere v u = of_directions same_hemisphere v u
