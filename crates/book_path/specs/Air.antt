-- What a bounce on a book's surface is beside document 01's. Definitions only; both are proved in proofs/Air.antt.
use Rattle.std.specs.Prelude.{◌≡◌, false}
use Rattle.optics.specs.F64.{AllF64}
use Rattle.optics.specs.Surface.{air}
use Rattle.path.specs.declared.records.Path.{Path}
use Rattle.path.specs.declared.records.Bounce.{Bounce}
use Rattle.path.specs.Answer.{refusal, bounce}
use Rattle.book.specs.Surfaces.{BookSurface, Offered, roughness_kept, surface_on}
use Rattle.book.specs.RoundTrips.{offered_in_air}
use Rattle.book_path.specs.BookBounce.{faced, bounce_on_book}

-- books have air outside: on a surface that was read it is the bounce in air, where 01 has no outer spectrum
unfoldable pub BookInAir : Type 0
BookInAir = (s : BookSurface) → AllF64 s.eta → (p : Path) (b : Bounce) → bounce_on_book p (offered_in_air s) b ≡ bounce p (surface_on s air) (faced s b)

-- on a surface whose roughness isn't as it was given it is refused as 1, and the path stays as it was
unfoldable pub RoughnessRefused : Type 0
RoughnessRefused = (o : Offered) → roughness_kept o.surface ≡ false → (p : Path) (b : Bounce) → bounce_on_book p o b ≡ refusal 1 p
