-- A book's surface in fixed memory, as C has it, and what the calls leave in memory. Definitions only.
use Rattle.std.specs.Prelude.{◌≡◌, ℕ, ◌-◌, ◌==◌, leb, Bool, not, cond, Option, Result, IsSomeAnd, MatchResult, List, [], ◌++◌, map, length, take, drop, replicate, Float}
use Rattle.floats.specs.Float.{f0, f1}
use Rattle.numbers.specs.DenseSpectrum.{fine_samples}
use Rattle.numbers.specs.Refusal.{refuse, ◌then◌, unless_refused, Answer, refused, given, ◌▷◌, number}
use Rattle.numbers.specs.declared.refusal.Refusal.{Refusal}
use Rattle.numbers.specs.Written.{over}
use Rattle.optics.specs.Surface.{kind_code, kind_of, roughness_of, is_roughness_given, medium}
use Rattle.optics.specs.declared.microfacet.{Kind.Kind, Kind.TheVariants.Metal, Kind.TheVariants.Glass}
use Rattle.optics.specs.Check.{check_spectra}
use Rattle.book.specs.Surfaces.{BookSurface, Offered, flag_of, surface_given}
use Rattle.book.specs.Book.{check_book, surfaces_in, check_writing, written}
pub use Rattle.book.specs.declared.record.Record.{Record}

-- ---- a spectrum's places: its entries, then zeros
unfoldable pub laid : List Float → List Float
laid xs = xs ++ replicate (fine_samples - length xs) f0

-- so many entries; a number that is above the places' is none's
unfoldable pub entries_in : ℕ → List Float → List Float
entries_in n places = cond (leb n fine_samples) (take n places) []

-- ---- the surface that a record offers
unfoldable pub surface_of : Record → BookSurface
surface_of r = record {
  kind = kind_of r.kind;
  two_sided = not (r.two_sided == 0);
  given = roughness_of r.kind r.given;
  roughness = r.roughness;
  eta = entries_in r.entries r.eta;
  k = entries_in r.entries r.k;
}

unfoldable pub offered : Record → Offered
offered r = record { surface = surface_of r; outer = entries_in r.entries r.outer }

-- ---- the record of a surface that was read: air lies outside it
unfoldable pub record_of : BookSurface → Record
record_of s = record {
  kind = kind_code s.kind;
  two_sided = flag_of s.two_sided;
  given = s.given;
  roughness = s.roughness;
  entries = length s.eta;
  eta = laid s.eta;
  k = laid s.k;
  outer = laid (replicate (length s.eta) f1);
}

-- ---- the record that a roughness as given and spectra make: 1 for the roughness, then what the spectra are refused for
-- what lies outside it, n entries: metal reads none, and has zeros
unfoldable pub outer_made : Kind → ℕ → List Float → List Float
outer_made Metal n outer = replicate n f0
outer_made Glass n outer = outer

-- what it offers
abbrev pub offered_made : Kind → Bool → Float → List Float → List Float → List Float → Offered
offered_made kind two_sided r eta k outer = record { surface = surface_given kind two_sided r eta k; outer = outer_made kind (length eta) outer }

unfoldable pub make_offered : Kind → Bool → Float → List Float → List Float → List Float → Answer Offered
make_offered kind two_sided r eta k outer =
    refuse 1 (is_roughness_given r) then check_spectra kind eta k (medium outer)
    ▷ given (offered_made kind two_sided r eta k outer)

-- what a place has after a surface was to be made in it: a record that offers what was given; what it had before, where that is refused
abbrev pub MadeIn : Answer Offered → Result Unit Refusal → Option Record → Option Record → Type 0
MadeIn made result before after =
    MatchResult result (λ done. IsSomeAnd after (λ r. made ≡ given (offered r))) (λ why. (after ≡ before) × (made ≡ refused (number why)))

-- what an answer's record offers
abbrev pub answer_offered : Answer Record → Answer Offered
answer_offered (refused n) = refused n
answer_offered (given r) = given (offered r)

-- ---- how many an answer has
abbrev pub counted : {A : Type 0} → Answer (List A) → Answer ℕ
counted (refused n) = refused n
counted (given xs) = given (length xs)

-- ---- what memory holds after a call: as before if it is refused
-- the surfaces from the one at `first` on, as many as there are places
unfoldable pub read_to : List ℕ → ℕ → List Record → List Record
read_to b first before =
    unless_refused (check_book b) before (over (map record_of (take (length before) (drop first (surfaces_in b)))) before)

-- the book over the front of the buffer
unfoldable pub written_to : List Offered → List ℕ → List ℕ
written_to os before = unless_refused (check_writing os (length before)) before (over (written os) before)
