-- A bounce on a book's surface is one of rulvimba_bounce (`BookCallIsCall`): the surface that the record offers is the one that C would hand over with its spectra.
use mathlib.Core.Path.{◌≡◌, refl, ap}
use Rattle.numbers.specs.declared.vec2.Vec2.{Vec2}
use Rattle.optics.specs.declared.microfacet.{Kind.Kind, Kind.TheVariants.Metal, Kind.TheVariants.Glass, Surface.Surface}
use Rattle.optics.specs.Surface.{Microsurface, medium, kind_code, kind_of, roughness_of}
use Rattle.path.specs.Answer.{bounce}
use Rattle.book.specs.Surfaces.{surface_on, offered_on}
use Rattle.book.specs.declared.record.Record.{Record}
use Rattle.book.specs.Record.{offered}
use Rattle.book.specs.Record as Book
use Rattle.book_path.specs.BookBounce.{faced, bounce_on_book}
use Rattle.rulvimba.specs.Surfaces.{surface_of, surface_with}
use Rattle.rulvimba.specs.Paths.{path_in}
use Rattle.rulvimba.specs.Calls.{surface_of_book, BookCallIsCall}

-- a surface by its kind's code
made : (kind : Kind) (a : Vec2) → surface_of (record { kind = kind_code kind; roughness = a }) ≡ record { kind = kind; roughness = a }
unfolding surface_of roughness_of kind_code kind_of
made Metal a = refl
made Glass a = refl

with_spectra : (s : Record) → surface_with (surface_of_book s) (Book.surface_of s).eta (Book.surface_of s).k (offered s).outer ≡ offered_on (offered s)
unfolding offered_on surface_on offered
with_spectra s = ap (λ (surface : Surface). record { kind = surface.kind; roughness = surface.roughness; eta = (Book.surface_of s).eta; k = (Book.surface_of s).k; outside = medium (offered s).outer }) (made (Book.surface_of s).kind (offered_on (offered s)).roughness)

pub book_call_is_call : BookCallIsCall
unfolding BookCallIsCall bounce_on_book offered
book_call_is_call before s b r after (answered, left) =
    let same = ap (λ (m : Microsurface). bounce (path_in before) m (faced (Book.surface_of s) b)) (with_spectra s) in
    (rw same answered, rw same left)
