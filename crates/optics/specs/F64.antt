-- The numbers that go in are values of binary64, as every f64 is: what a statement about all of them asks. Definitions only.
use Rattle.std.specs.Prelude.{List, [], ◌∷◌, T, Float}
use Rattle.std.specs.Float.{binary64}
use Rattle.std.specs.Float.Ieee.{fits}
use Rattle.optics.specs.Surface.{Outside, air, medium}

abbrev pub F64 : Float → Type 0
F64 x = T (fits binary64 x)

unfoldable pub AllF64 : List Float → Type 0
AllF64 [] = Unit
AllF64 (x ∷ xs) = F64 x × AllF64 xs

unfoldable pub OuterF64 : Outside → Type 0
OuterF64 air = Unit
OuterF64 (medium outer) = AllF64 outer
