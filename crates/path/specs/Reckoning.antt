-- The product of weights (document 01, "Bounce": the reckoning beside the program). It is fed each bounce's arguments but the path, and reads no answer and no returned path. Definitions only.
use Rattle.optics.specs.Surface.{Microsurface}
use Rattle.numbers.specs.Refusal.{unless_refused}
use Rattle.path.specs.Path.{Path}
use Rattle.path.specs.Bounce.{Bounce, check_bounce, advanced}

-- a refused bounce changes nothing
unfoldable pub reckon : Path → Microsurface → Bounce → Path
reckon p m b = unless_refused (check_bounce p m b) p (advanced p m b)
