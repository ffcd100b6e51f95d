-- Reading and writing a material book (document 02, vi): what the two answer. Definitions only.
use Rattle.std.specs.Prelude.{ℕ, leb, ◌&&◌, List, [], map, length}
use Rattle.numbers.specs.Refusal.{Verdict, refuse, ◌then◌, Answer, given, ◌▷◌}
use Rattle.book.specs.Layout.{book_max, book_of, parts, is_book, none_equal, new_after}
use Rattle.book.specs.Surfaces.{BookSurface, Offered, part_bytes, surface_in, check_read, check_written, check_all, equal_for_writing, equal_for_reading}

-- ---- reading
unfoldable pub surfaces_in : List ℕ → List BookSurface
surfaces_in b = map surface_in (parts b)

-- 14 for any other layout or an equal pair, then the checks of each part in order
unfoldable pub check_book : List ℕ → Verdict
check_book b =
    refuse 14 (is_book b && none_equal equal_for_reading (parts b))
    then check_all check_read (surfaces_in b)

unfoldable pub read_book : List ℕ → Answer (List BookSurface)
read_book b = check_book b ▷ given (surfaces_in b)

-- ---- writing
-- the surfaces less each that is equal to an earlier one
unfoldable pub distinct : List BookSurface → List BookSurface
distinct ss = new_after equal_for_writing [] ss

unfoldable pub surfaces_of : List Offered → List BookSurface
surfaces_of os = map (λ o. o.surface) os

unfoldable pub written : List Offered → List ℕ
written os = book_of (map part_bytes (distinct (surfaces_of os)))

-- the checks of each surface in order, then 14 for a book that is too long or has no room
unfoldable pub check_writing : List Offered → ℕ → Verdict
check_writing os room =
    check_all check_written os
    then refuse 14 (leb (length (written os)) book_max && leb (length (written os)) room)

unfoldable pub write_book : List Offered → ℕ → Answer (List ℕ)
write_book os room = check_writing os room ▷ given (written os)
