-- What a line has of a surface: kind, two-sided or not, roughness as given, and the entries of each spectrum. Definitions only.
use Rattle.std.specs.Prelude.{ℕ, ◌==◌, leb, Bool, cond, Option, Some, None, ok_or, Result, Ok, Err, List, [], ◌∷◌, length, take, get_or, replicate, bytes_eq, codes, Float}
use Rattle.floats.specs.Float.{f0, f1}
use Rattle.numbers.specs.DenseSpectrum.{is_table}
use Rattle.optics.specs.declared.microfacet.{Kind.Kind, Kind.TheVariants.Metal, Kind.TheVariants.Glass}
use Rattle.text.specs.declared.faults.Fault.{Fault}
use Rattle.text.specs.declared.faults.Wrong.{Wrong}
use Rattle.text.specs.Line.{Left, and_then, word, past_word, fault, keyword, is_next, past_optional, number, past_number, end, spectrum_ends, checked_until, read_entries, past_entries}
use Rattle.jobs.specs.declared.entries.Entries.{Entries}
use Rattle.jobs.specs.declared.surface.Words.{Words}

-- ---- the entries of a spectrum
-- those that the code's places hold; a number above the places' is none's
unfoldable pub entries_of : Entries → List Float
entries_of e = cond (leb e.count 472) (take e.count e.values) []

-- those that are kept of a line: one more than the most that a spectrum has, so that too many are still too many
unfoldable pub kept : Left → Result (List Float) Fault
kept l = and_then (checked_until spectrum_ends (length l.rest) l) (λ done. Ok (take 472 (read_entries l)))

-- a lone entry stands for as many as the others have
unfoldable pub spread : ℕ → List Float → List Float
spread n xs = cond (length xs == 1) (replicate n (get_or xs 0 f0)) xs

-- ---- a surface
pub record Described : Type 0 where
  pub kind : Kind
  pub two_sided : Bool
  pub given : Float
  pub eta : List Float
  pub k : List Float
  pub outer : List Float

abbrev pub described : Words → Described
described w = record { kind = w.kind; two_sided = w.two_sided; given = w.given; eta = entries_of w.eta; k = entries_of w.k; outer = entries_of w.outer }

-- how many entries a lone one stands for: as many as the first spectrum that is a table has, and where none is, as lumo's
unfoldable pub samples : List Float → List Float → List Float → ℕ
samples eta k outer = cond (is_table eta) (length eta) (cond (is_table k) (length k) (cond (is_table outer) (length outer) 95))

-- each lone entry at every wavelength
abbrev pub spread_all : Described → Described
spread_all d =
    let n = samples d.eta d.k d.outer in
    record d { eta = spread n d.eta; k = spread n d.k; outer = spread n d.outer }

-- ---- what a line has of it: KIND [two-sided] ROUGHNESS eta ENTRIES k ENTRIES [outer ENTRIES]
abbrev pub kind_named : List ℕ → Option Kind
kind_named w = cond (bytes_eq w (codes "metal")) (Some Metal) (cond (bytes_eq w (codes "glass")) (Some Glass) None)

unfoldable pub kind : Left → Result Kind Fault
kind l = and_then (word l) (λ w. ok_or (kind_named w) (fault (past_word l) Wrong.Kind))

-- the outer spectrum, or else the 1.0 of air; metal has none, whatever its line says
abbrev pub outside : Kind → List Float → List Float
outside Metal xs = []
outside Glass xs = xs

unfoldable pub outer : Kind → Left → Result (List Float) Fault
outer kind l = and_then (cond (is_next (codes "outer") l) (kept (past_word l)) (Ok (f1 ∷ []))) (λ xs. Ok (outside kind xs))

unfoldable pub past_outer : Left → Left
past_outer l = cond (is_next (codes "outer") l) (past_entries (past_word l)) l

unfoldable pub surface : Left → Result Described Fault
surface l =
    let flag = past_word l in
    let roughness = past_optional (codes "two-sided") flag in
    let before_eta = past_number roughness in
    let before_k = past_entries (past_word before_eta) in
    let before_outer = past_entries (past_word before_k) in
    and_then (kind l) (λ kind. and_then (number roughness) (λ given.
    and_then (keyword (codes "eta") Wrong.Eta before_eta) (λ e. and_then (kept (past_word before_eta)) (λ eta.
    and_then (keyword (codes "k") Wrong.K before_k) (λ f. and_then (kept (past_word before_k)) (λ k.
    and_then (outer kind before_outer) (λ outer. and_then (end (past_outer before_outer)) (λ g.
    Ok (spread_all (record { kind = kind; two_sided = is_next (codes "two-sided") flag; given = given; eta = eta; k = k; outer = outer }))))))))))

-- what the code answers, with what its words or its entries then are
abbrev pub described_by : Result Unit Fault → Words → Result Described Fault
described_by (Ok done) w = Ok (described w)
described_by (Err f) w = Err f

abbrev pub entries_by : Result Unit Fault → Entries → Result (List Float) Fault
entries_by (Ok done) e = Ok (entries_of e)
entries_by (Err f) e = Err f

abbrev pub entries_read : Result Entries Fault → Result (List Float) Fault
entries_read r = and_then r (λ e. Ok (entries_of e))
