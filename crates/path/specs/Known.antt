-- What a call finds once of its surface, for one bounce or many: a form that serves speed alone. Definitions only.
use Rattle.std.specs.Prelude.{List, [], Float}
use Rattle.numbers.specs.DenseSpectrum.{step_of}
use Rattle.numbers.specs.Refusal.{Answer, given, ◌▷◌}
use Rattle.optics.specs.Known.{known_on_glass}
use Rattle.optics.specs.Surface.{Outside, air, medium, Microsurface}
use Rattle.optics.specs.Check.{check_surface}
use Rattle.optics.specs.declared.microfacet.{Kind.Kind, Kind.TheVariants.Metal, Kind.TheVariants.Glass}
pub use Rattle.path.specs.declared.prepared.Found.{Found}

-- the outer spectrum of a medium
abbrev pub entries : Outside → List Float
entries air = []
entries (medium outer) = outer

-- on metal nothing asks more than the step
unfoldable pub found_on : Kind → List Float → Outside → Found
found_on Metal eta outside = Found.Metal (step_of eta)
found_on Glass eta outside = Found.Glass (known_on_glass eta (entries outside))

-- of a surface that is refused nothing is asked
unfoldable pub found : Microsurface → Answer Found
found m = check_surface m ▷ given (found_on m.kind m.eta m.outside)
