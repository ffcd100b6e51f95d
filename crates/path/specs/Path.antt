-- A path: four wavelengths, each with the power that is left (document 01, "Records"; lumo's `ColorWavelength`). Definitions only.
use Rattle.std.specs.Prelude.{Bool, ◌&&◌, Float}
use Rattle.floats.specs.Float.{◌⊗◌, f0, f1, within}
use Rattle.numbers.specs.DenseSpectrum.{terminated, is_wavelength, is_lookup_wavelength}
use Rattle.numbers.specs.Refusal.{Answer, given, refuse, ◌▷◌}
use Rattle.optics.specs.Color.{color, all4}
use Rattle.optics.specs.declared.color.Color.{Color}
pub use Rattle.path.specs.declared.records.Path.{Path}

abbrev pub path : Color → Color → Path
path lambda power = record { lambda = lambda; power = power }

-- an operation on each two, and on each three
abbrev pub each2 : (Float → Float → Float) → Color → Color → Color
each2 f a b = color (f a.s0 b.s0) (f a.s1 b.s1) (f a.s2 b.s2) (f a.s3 b.s3)

abbrev pub each3 : (Float → Float → Float → Float) → Color → Color → Color → Color
each3 f a b c = color (f a.s0 b.s0 c.s0) (f a.s1 b.s1 c.s1) (f a.s2 b.s2 c.s2) (f a.s3 b.s3 c.s3)

-- ---- a start: four wavelengths of the range, and powers 1.0; else 4
unfoldable pub ones : Color
ones = color f1 f1 f1 f1

unfoldable pub is_start : Color → Bool
is_start lambda = all4 is_wavelength lambda

unfoldable pub start : Color → Answer Path
start lambda = refuse 4 (is_start lambda) ▷ given (path lambda ones)

-- ---- wavelengths
-- the first is never ended
unfoldable pub leading : Color → Float
leading lambda = lambda.s0

-- all but the leading one ended
unfoldable pub terminate : Color → Color
terminate lambda = color (leading lambda) terminated terminated terminated

-- a path's wavelengths: 0, for one that was ended, is allowed in two to four
unfoldable pub is_path_lambda : Color → Bool
is_path_lambda lambda =
    is_wavelength lambda.s0
    && is_lookup_wavelength lambda.s1 && is_lookup_wavelength lambda.s2 && is_lookup_wavelength lambda.s3

-- ---- powers and filters: from 0 to 1
unfoldable pub is_power : Float → Bool
is_power p = within f0 f1 p

unfoldable pub is_filter : Float → Bool
is_filter x = within f0 f1 x

-- each power times its weight, one rounding
unfoldable pub weighed : Color → Color → Color
weighed power weight = each2 ◌⊗◌ power weight
