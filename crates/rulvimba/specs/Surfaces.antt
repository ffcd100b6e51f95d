-- Surfaces laid out for C, their kind by its code. Definitions only.
use Rattle.std.specs.Prelude.{Float}
use mathlib.Core.{List.List}
use Rattle.floats.specs.Float.{f0}
use Rattle.numbers.specs.Vec2.{vec2}
use Rattle.numbers.specs.Refusal.{Answer}
use Rattle.counter.specs.Counter.{map_answer}
use Rattle.rulvimba.specs.Results.{number_of, value_or}
use Rattle.optics.specs.Surface.{Microsurface, microsurface, kind_code, kind_of, roughness_of}
use Rattle.optics.specs.declared.microfacet.Surface.{Surface}
pub use Rattle.rulvimba.specs.declared.surfaces.{SurfaceRecord.SurfaceRecord, SurfaceResult.SurfaceResult}

-- a kind that is neither has a roughness that is refused as 1
unfoldable pub surface_of : SurfaceRecord → Surface
surface_of s = record {
  kind = kind_of s.kind;
  roughness = vec2 (roughness_of s.kind s.roughness.x) (roughness_of s.kind s.roughness.y);
}

-- with the spectra that are lent beside it
abbrev pub surface_with : SurfaceRecord → List Float → List Float → List Float → Microsurface
surface_with s eta k outer = microsurface (surface_of s) eta k outer

unfoldable pub surface_record : Surface → SurfaceRecord
surface_record s = record { kind = kind_code s.kind; roughness = s.roughness }

abbrev pub no_surface : SurfaceRecord
no_surface = record { kind = 0; roughness = vec2 f0 f0 }

-- 01's number and zeros, or 0 and the surface
unfoldable pub surface_result : Answer Surface → SurfaceResult
surface_result a = record { number = number_of a; surface = value_or (map_answer surface_record a) no_surface }
