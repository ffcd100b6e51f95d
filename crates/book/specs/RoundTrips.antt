-- What holds of every book (document 02, vi), about the definitions. Definitions only; `RoundTrips` is proved in proofs/RoundTrips.antt.
use Rattle.std.specs.Prelude.{ℕ, ◌≡◌, ◌≤◌, true, T, not, List, map, length, replicate}
use Rattle.std.specs.List.{list_all, All, AllPairs}
use Rattle.floats.specs.Float.{f1}
use Rattle.numbers.specs.Refusal.{given}
use Rattle.optics.specs.F64.{F64, AllF64}
use Rattle.book.specs.Bytes.{AreBytes}
use Rattle.book.specs.Layout.{book_max, book_of, parts, is_part, is_book}
use Rattle.book.specs.Surfaces.{BookSurface, Offered, equal_for_reading}
use Rattle.book.specs.Book.{read_book, distinct, surfaces_of, write_book}
use Rattle.book.specs.Record.{offered, record_of}

-- its numbers are values of binary64: every f64 is
pub record SurfaceF64 (s : BookSurface) : Type 0 where
  pub given : F64 s.given
  pub roughness_x : F64 s.roughness.x
  pub roughness_y : F64 s.roughness.y
  pub eta : AllF64 s.eta
  pub k : AllF64 s.k

-- a surface that was read, to be written again
abbrev pub offered_in_air : BookSurface → Offered
offered_in_air s = record { surface = s; outer = replicate (length s.eta) f1 }

pub record RoundTrips : Type 0 where
  -- reading a written book gives its surfaces less the ones left out
  pub read_of_write : (os : List Offered) (room : ℕ) (b : List ℕ) → All SurfaceF64 (surfaces_of os)
      → write_book os room ≡ given b → read_book b ≡ given (distinct (surfaces_of os))
  -- writing what was read gives its bytes, wherever they have room
  pub write_of_read : (b : List ℕ) (ss : List BookSurface) (room : ℕ) → AreBytes b
      → read_book b ≡ given ss → length b ≤ room → write_book (map offered_in_air ss) room ≡ given b
  -- the records of what was read, handed to the writer, offer it in air
  pub offered_again : (b : List ℕ) (ss : List BookSurface) → read_book b ≡ given ss
      → map offered (map record_of ss) ≡ map offered_in_air ss
  -- what is laid out as a book is one, of these parts
  pub book_of_parts : (ps : List (List ℕ)) → list_all is_part ps ≡ true → length (book_of ps) ≤ book_max
      → (is_book (book_of ps) ≡ true) × (parts (book_of ps) ≡ ps)
  -- an accepted book holds no part that is equal to an earlier one
  pub no_equal_parts : (b : List ℕ) (ss : List BookSurface) → read_book b ≡ given ss
      → AllPairs (λ p q. T (not (equal_for_reading q p))) (parts b)
