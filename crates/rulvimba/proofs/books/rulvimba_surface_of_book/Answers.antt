-- `rulvimba::books::rulvimba_surface_of_book` meets its contract: the record is that of the surface that the book's surface lends.
use mathlib.Core.Path.{ap, ◌∙◌}
use Rattle.optics.specs.Surface.{Microsurface, kind_code}
use Rattle.book.specs.Record.{offered}
use Rattle.book.specs.Surfaces.{offered_on, surface_on}
use Rattle.rulvimba.specs.Surfaces.{SurfaceRecord, surface_record}
use Rattle.rulvimba.proofs.books.rulvimba_surface_of_book.Goals as goal

pub returns : goal.returns
unfolding surface_record offered_on surface_on offered
returns c =
    let record_of : Microsurface → SurfaceRecord = λ m. record { kind = kind_code m.kind; roughness = m.roughness } in
    c.from.ensures ∙ ap record_of (c.lent-2.view_is ∙ c.lent.ensures)
