-- A surface whose kind is neither metal nor glass is refused as 1, whatever else it holds: made or checked.
use Prim.Native.Nat.{ℕ, ◌<◌}
use mathlib.Core.Path.{◌≡◌}
use mathlib.Core.List.{List}
use lib.Ieee.{Float, le}
use borrow.Author.Tests.{lt-leb}
use Rattle.floats.specs.Float.{within, decimal}
use Rattle.numbers.specs.Refusal.{refused, rejected}
use Rattle.optics.specs.Surface.{Outside, kind_of, roughness_of, roughness_min, is_roughness, roughness_holds, is_roughness_given}
use Rattle.optics.specs.Check.{check_surface}
use Rattle.counter.specs.Counter.{make_surface}
use Rattle.rulvimba.specs.declared.surfaces.SurfaceRecord.{SurfaceRecord}
use Rattle.rulvimba.specs.Surfaces.{surface_of, surface_with}

pub unknown-checked : (s : SurfaceRecord) (eta k outer : List Float) → 1 < s.kind → check_surface (surface_with s eta k outer) ≡ rejected 1
unfolding check_surface surface_of roughness_of roughness_holds is_roughness within roughness_min decimal le
unknown-checked s eta k outer h = rw (lt-leb _ _ h)

pub unknown_made : (kind : ℕ) (r : Float) (eta k : List Float) (outside : Outside) → 1 < kind → make_surface (kind_of kind) (roughness_of kind r) eta k outside ≡ refused 1
unfolding make_surface roughness_of is_roughness_given within le
unknown_made kind r eta k outside h = rw (lt-leb _ _ h)
