-- The calls that read a material book and write one. Definitions only.
use Rattle.std.specs.Prelude.{ℕ, ◌≡◌, List, map, length}
use Rattle.numbers.specs.Refusal.{Answer}
use Rattle.book.specs.Book.{read_book, write_book}
use Rattle.book.specs.declared.record.Record.{Record}
use Rattle.book.specs.Record.{offered, counted, read_to, written_to}
use Rattle.rulvimba.specs.Results.{number_of, value_or}
pub use Rattle.rulvimba.specs.declared.books.CountResult.{CountResult}

unfoldable pub count_result : Answer ℕ → CountResult
count_result a = record { number = number_of a; count = value_or a 0 }

-- the contract of rulvimba_read_book, which finds `before` in the records, returns r and leaves `after`
abbrev pub ReadCall : List ℕ → ℕ → List Record → CountResult → List Record → Type 0
ReadCall b first before r after =
    (r ≡ count_result (counted (read_book b))) × (after ≡ read_to b first before)

-- the contract of rulvimba_write_book, which finds `before` in the buffer, returns r and leaves `after`
abbrev pub WriteCall : List Record → List ℕ → CountResult → List ℕ → Type 0
WriteCall surfaces before r after =
    let os = map offered surfaces in
    (r ≡ count_result (counted (write_book os (length before)))) × (after ≡ written_to os before)
