-- A bounce on a book's surface (document 02, vi). Definitions only.
use Rattle.std.specs.Prelude.{Bool, ◌&&◌, not, false}
use Rattle.optics.specs.declared.microfacet.{Kind.Kind, Kind.TheVariants.Metal, Kind.TheVariants.Glass}
use Rattle.path.specs.declared.records.Path.{Path}
use Rattle.path.specs.declared.records.Bounce.{Bounce}
use Rattle.path.specs.Answer.{Outcome, bounce}
use Rattle.book.specs.Surfaces.{BookSurface, Offered, offered_on}

-- two-sided metal ignores the backface flag; on glass, which never reads it, the surface's flag does nothing
unfoldable pub ignores_backface : Kind → Bool → Bool
ignores_backface Metal two_sided = two_sided
ignores_backface Glass two_sided = false

unfoldable pub faced : BookSurface → Bounce → Bounce
faced s b = record b { backface = b.backface && not (ignores_backface s.kind s.two_sided) }

-- the bounce of document 01 on the surface, with that flag
unfoldable pub bounce_on_book : Path → Offered → Bounce → Outcome
bounce_on_book p o b = bounce p (offered_on o) (faced o.surface b)
