-- What holds of every book (`RoundTrips` of specs/RoundTrips.antt). From what a call that gave an answer had passed (`reading_of`, `writing_of`): a written book's
-- parts are the bytes of its surfaces, each read as the surface (`surface_part`), and a read book's parts are the bytes of the surfaces that they are read as (`part_surface`).
use Rattle.std.proofs.Common.{◌≡◌, refl, sym, ap, ◌∙◌, subst, ℕ, ◌+◌, ◌*◌, ◌≤◌, arith, true, T, not, leb, leb-true, le-leb, List, [], map, length, drop}
use Rattle.std.specs.List.{All, AllPairs}
use Rattle.std.proofs.lemmas.Bool.{and_parts}
use Rattle.std.proofs.lemmas.List.{length-map, get_or-map}
use Rattle.std.proofs.lemmas.Simd.{map-map}
use Rattle.std.proofs.lemmas.List.Elements.{All-map, All-weaker}
use Rattle.std.proofs.lemmas.List.Folds.{map_fixed}
use Rattle.std.proofs.lemmas.List.Sums.{AllPass-from_list_all, list_all-from_AllPass}
use lib.Ieee.Bits.{is_true}
use Rattle.numbers.specs.Refusal.{Verdict, accepted, rejected, given, ◌▷◌}
use Rattle.numbers.proofs.refusal.Checks.{test_passed, first_passed, next_passed}
use Rattle.book.specs.Bytes.{AreBytes, word_at}
use Rattle.book.specs.Layout.{book_max, book_of, parts, part_at, is_part, is_book, none_equal, new_after}
use Rattle.book.specs.Surfaces.{BookSurface, Offered, part_bytes, surface_in, check_read, check_written, check_all, equal_for_writing, equal_for_reading}
use Rattle.book.specs.Book.{surfaces_in, check_book, read_book, distinct, surfaces_of, written, check_writing, write_book}
use Rattle.book.specs.Record.{offered, record_of}
use Rattle.book.specs.RoundTrips.{SurfaceF64, offered_in_air, RoundTrips}
use Rattle.book.proofs.Doubles.{bytes_take, bytes_drop}
use Rattle.book.proofs.Surfaces.{read_of_written, written_in_air, surface_part, part_is_part, part_surface}
use Rattle.book.proofs.Records.{parts_offered}
use Rattle.book.proofs.Repetition.{none_equal-new_after, new_after-none_equal, All-new_after, AllPairs-none_equal, none_equal-parts, All-check_all, check_all-All}
use Rattle.book.proofs.layout.Parts.{parts_of_book, is_book_of, book_is_book, length-parts, get_or-parts}

-- ---- an answer that is given
given_of : {A : Type 0} (v : Verdict) (x y : A) → (v ▷ given x) ≡ given y → (v ≡ accepted) × (x ≡ y)
given_of accepted x y h = (refl, cc)
given_of (rejected n) x y h = cc

-- ---- images
-- there and back again
back : {A B : Type 0} (f : A → B) (g : B → A) (xs : List A) → All (λ x. g (f x) ≡ x) xs → map g (map f xs) ≡ xs
back f g xs h = map-map g f xs ∙ map_fixed (λ x. g (f x)) xs h

All-image : {A B : Type 0} (P : B → Type 0) (f : A → B) (xs : List A) → All P (map f xs) → All (λ x. P (f x)) xs
All-image P f xs h i d l = subst P (get_or-map f xs i d (f d) l) (h i (f d) (rw length-map l))

-- ---- what a call that gave surfaces had read
record Reading (b : List ℕ) (ss : List BookSurface) : Type 0 where
  book : is_book b ≡ true
  different : none_equal equal_for_reading (parts b) ≡ true
  checked : check_all check_read (map surface_in (parts b)) ≡ accepted
  is : map surface_in (parts b) ≡ ss

reading_of : (b : List ℕ) (ss : List BookSurface) → read_book b ≡ given ss → Reading b ss
unfolding read_book check_book surfaces_in
reading_of b ss h =
    let answer = given_of (check_book b) (surfaces_in b) ss h in
    let layout = and_parts (is_book b) (none_equal equal_for_reading (parts b)) (is_true _ (test_passed 14 _ (first_passed _ _ answer.0))) in
    record { book = layout.0; different = layout.1; checked = next_passed _ _ answer.0; is = answer.1 }

reading_gives : (b : List ℕ) (ss : List BookSurface) → Reading b ss → read_book b ≡ given ss
unfolding read_book check_book surfaces_in
reading_gives b ss r = rw (r.book, r.different, r.checked, r.is) refl

-- ---- what a call that gave bytes had written
record Writing (os : List Offered) (room : ℕ) (b : List ℕ) : Type 0 where
  checked : check_all check_written os ≡ accepted
  short : length b ≤ book_max
  fits : length b ≤ room
  is : written os ≡ b

writing_of : (os : List Offered) (room : ℕ) (b : List ℕ) → write_book os room ≡ given b → Writing os room b
unfolding write_book check_writing
writing_of os room b h =
    let answer = given_of (check_writing os room) (written os) b h in
    let n = length (written os) in
    let limits = and_parts (leb n book_max) (leb n room) (is_true _ (test_passed 14 _ (next_passed _ _ answer.0))) in
    record {
      checked = first_passed _ _ answer.0;
      short = rw (← answer.1) (leb-true n book_max limits.0);
      fits = rw (← answer.1) (leb-true n room limits.1);
      is = answer.1;
    }

writing_gives : (os : List Offered) (room : ℕ) (b : List ℕ) → Writing os room b → write_book os room ≡ given b
unfolding write_book check_writing
writing_gives os room b w =
    rw (w.checked, w.is, le-leb (length b) book_max w.short, le-leb (length b) room w.fits) refl

-- ---- a written book, read
-- a surface that a written book holds
record Kept (s : BookSurface) : Type 0 where
  fits : SurfaceF64 s
  checked : check_read s ≡ accepted

kept_of : (os : List Offered) → All SurfaceF64 (surfaces_of os) → check_all check_written os ≡ accepted → All Kept (distinct (surfaces_of os))
unfolding surfaces_of distinct
kept_of os fits checked =
    let read : All (λ s. check_read s ≡ accepted) (map (λ o. o.surface) os) =
    All-map (λ s. check_read s ≡ accepted) (λ o. o.surface) os (All-weaker _ (λ o. check_read o.surface ≡ accepted) read_of_written os (All-check_all check_written os checked)) in
    All-new_after equal_for_writing Kept [] (surfaces_of os) (λ i d l. record { fits = fits i d l; checked = read i d l })

read_again : (ss : List BookSurface) → All Kept ss → none_equal equal_for_writing ss ≡ true → length (book_of (map part_bytes ss)) ≤ book_max
    → Reading (book_of (map part_bytes ss)) ss
read_again ss kept different short =
    let ps = map part_bytes ss in
    let all = list_all-from_AllPass is_part ps (All-map (λ p. is_part p ≡ true) part_bytes ss (All-weaker Kept _ (λ s k. part_is_part s k.checked) ss kept)) in
    let same : map surface_in ps ≡ ss = back part_bytes surface_in ss (All-weaker Kept _ (λ s k. surface_part s k.fits k.checked) ss kept) in
    let cut : parts (book_of ps) ≡ ps = parts_of_book ps (omega arith) in
    record {
      book = book_is_book ps all short;
      different = rw (cut, none_equal-parts ps, same) different;
      checked = rw (cut, same) (check_all-All check_read ss (All-weaker Kept _ (λ s k. k.checked) ss kept));
      is = rw (cut, same) refl;
    }

read_of_write : (os : List Offered) (room : ℕ) (b : List ℕ) → All SurfaceF64 (surfaces_of os) → write_book os room ≡ given b
    → read_book b ≡ given (distinct (surfaces_of os))
unfolding written distinct
read_of_write os room b fits h =
    let w = writing_of os room b h in
    let ss = distinct (surfaces_of os) in
    let short : length (written os) ≤ book_max = rw w.is w.short in
    let r = read_again ss (kept_of os fits w.checked) (none_equal-new_after equal_for_writing (surfaces_of os)) short in
    ap read_book (sym w.is) ∙ reading_gives (written os) ss r

-- ---- a read book, written
part_bytes_in : (b : List ℕ) → AreBytes b → All AreBytes (parts b)
unfolding part_at
part_bytes_in b bytes i d l =
    let at = word_at b (4 + 8 * i) in
    rw (get_or-parts b i d (omega (arith, length-parts b))) (bytes_take (word_at b (8 + 8 * i)) (drop at b) (bytes_drop at b bytes))

write_again : (b : List ℕ) (ss : List BookSurface) → AreBytes b → Reading b ss → map part_bytes ss ≡ parts b
write_again b ss bytes r =
    let ps = parts b in
    let all = AllPass-from_list_all is_part ps (is_book_of b r.book).all_parts in
    let all_bytes = part_bytes_in b bytes in
    let checked = All-image (λ s. check_read s ≡ accepted) surface_in ps (All-check_all check_read (map surface_in ps) r.checked) in
    let same : map part_bytes (map surface_in ps) ≡ ps =
    back surface_in part_bytes ps (λ i d l. part_surface _ (all_bytes i d l) (all i d l) (checked i d l)) in
    rw (← r.is) same

write_of_read : (b : List ℕ) (ss : List BookSurface) (room : ℕ) → AreBytes b → read_book b ≡ given ss → length b ≤ room
    → write_book (map offered_in_air ss) room ≡ given b
unfolding written distinct surfaces_of
write_of_read b ss room bytes h fits =
    let r = reading_of b ss h in
    let book = is_book_of b r.book in
    let surfaces : map (λ o. o.surface) (map offered_in_air ss) ≡ ss = back offered_in_air (λ o. o.surface) ss (λ i d l. refl) in
    let different : none_equal equal_for_writing ss ≡ true = rw (← r.is, ← none_equal-parts (parts b)) r.different in
    let same : new_after equal_for_writing [] ss ≡ ss = new_after-none_equal equal_for_writing ss different in
    let checked : All (λ s. check_read s ≡ accepted) ss = All-check_all check_read ss (rw (← r.is) r.checked) in
    writing_gives (map offered_in_air ss) room b (record {
      checked = check_all-All check_written _ (All-map (λ o. check_written o ≡ accepted) offered_in_air ss (All-weaker _ _ written_in_air ss checked));
      short = book.short;
      fits = fits;
      is = rw (surfaces, same, write_again b ss bytes r) (sym book.is);
    })

offered_again : (b : List ℕ) (ss : List BookSurface) → read_book b ≡ given ss → map offered (map record_of ss) ≡ map offered_in_air ss
offered_again b ss h = rw (← (reading_of b ss h).is) (parts_offered (parts b))

-- ---- no two are equal
no_equal_parts : (b : List ℕ) (ss : List BookSurface) → read_book b ≡ given ss → AllPairs (λ p q. T (not (equal_for_reading q p))) (parts b)
no_equal_parts b ss h = AllPairs-none_equal equal_for_reading (parts b) (reading_of b ss h).different

pub round_trips : RoundTrips
round_trips = record {
  read_of_write = read_of_write;
  write_of_read = write_of_read;
  offered_again = offered_again;
  book_of_parts = λ ps all short. (book_is_book ps all short, parts_of_book ps (omega arith));
  no_equal_parts = no_equal_parts;
}
