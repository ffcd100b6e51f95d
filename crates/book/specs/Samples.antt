-- Known values of books, which fix the definitions. Definitions only; they are proved in proofs/Samples.antt.
use Rattle.std.specs.Prelude.{ℕ, ◌≡◌, false, true, List, [], ◌∷◌, ◌++◌, map, length, take, drop, replicate, Float}
use Rattle.std.specs.Float.Ieee.{neg}
use Rattle.floats.specs.Float.{f0, f1, f2, f_1, decimal}
use Rattle.numbers.specs.DenseSpectrum.{dense_samples, fine_samples}
use Rattle.numbers.specs.Refusal.{rejected, refused, given}
use Rattle.numbers.specs.Vec2.{splat}
use Rattle.optics.specs.declared.microfacet.{Kind.Kind, Kind.TheVariants.Metal, Kind.TheVariants.Glass}
use Rattle.book.specs.Bytes.{word, double}
use Rattle.book.specs.Layout.{book_of, part_length}
use Rattle.book.specs.Surfaces.{BookSurface, Offered, part_bytes, surface_given, check_written}
use Rattle.book.specs.Book.{read_book, distinct, written, write_book}
use Rattle.book.specs.RoundTrips.{offered_in_air}

-- ---- surfaces of constant spectra, not two-sided; eta is 1.0
-- of some kind, entries, roughness and k
abbrev pub sample : Kind → ℕ → Float → Float → BookSurface
sample kind n r k = surface_given kind false r (replicate n f1) (replicate n k)

abbrev pub metal : Float → BookSurface
metal r = sample Metal dense_samples r f2

abbrev pub glass : Float → BookSurface
glass r = sample Glass dense_samples r f0

-- of the finer spacing, of roughness n / 10
abbrev pub fine : ℕ → BookSurface
fine n = sample Metal fine_samples (decimal n 10) f2

abbrev pub in_air : List BookSurface → List Offered
in_air ss = map offered_in_air ss

-- ---- books
abbrev pub no_surfaces : List ℕ
no_surfaces = 0 ∷ 0 ∷ 0 ∷ 0 ∷ []

abbrev pub one : List ℕ
one = written (in_air (metal f0 ∷ []))

-- the book of parts that are these surfaces', whether they may be written or not
abbrev pub book_of_surfaces : List BookSurface → List ℕ
book_of_surfaces ss = book_of (map part_bytes ss)

pub record Samples : Type 0 where
  -- numbers and doubles, low byte first
  pub word_1531 : word 1531 ≡ 251 ∷ 5 ∷ 0 ∷ 0 ∷ []
  pub double_1 : double f1 ≡ 0 ∷ 0 ∷ 0 ∷ 0 ∷ 0 ∷ 0 ∷ 240 ∷ 63 ∷ []
  -- a part of either spacing
  pub part_of_95 : part_length 95 ≡ 1531
  pub part_of_471 : part_length 471 ≡ 7547
  -- kind, step and flag of fine two-sided glass; the roughness of metal, 0.5, then eta, 1.0, then k, 2.0
  pub glass_begins : take 3 (part_bytes (record (sample Glass fine_samples f0 f0) { two_sided = true })) ≡ 1 ∷ 1 ∷ 1 ∷ []
  pub roughness_at_3 : take 8 (drop 3 (part_bytes (metal (decimal 5 10)))) ≡ 0 ∷ 0 ∷ 0 ∷ 0 ∷ 0 ∷ 0 ∷ 224 ∷ 63 ∷ []
  pub eta_at_11 : take 8 (drop 11 (part_bytes (metal (decimal 5 10)))) ≡ 0 ∷ 0 ∷ 0 ∷ 0 ∷ 0 ∷ 0 ∷ 240 ∷ 63 ∷ []
  pub k_at_771 : take 8 (drop 771 (part_bytes (metal (decimal 5 10)))) ≡ 0 ∷ 0 ∷ 0 ∷ 0 ∷ 0 ∷ 0 ∷ 0 ∷ 64 ∷ []
  -- no surfaces
  pub none_written : write_book [] 4 ≡ given no_surfaces
  pub none_without_room : write_book [] 3 ≡ refused 14
  pub none_read : read_book no_surfaces ≡ given []
  -- one: the count, its offset and its length, then its kind, step and flag
  pub one_written : write_book (in_air (metal f0 ∷ [])) 1543 ≡ given one
  pub one_without_room : write_book (in_air (metal f0 ∷ [])) 1542 ≡ refused 14
  pub one_read : read_book one ≡ given (metal f0 ∷ [])
  pub one_begins : take 15 one ≡ 1 ∷ 0 ∷ 0 ∷ 0 ∷ 12 ∷ 0 ∷ 0 ∷ 0 ∷ 251 ∷ 5 ∷ 0 ∷ 0 ∷ 0 ∷ 5 ∷ 0 ∷ []
  -- two, the first of the finer spacing: 20 is where the pairs end, and 7567 where the first part ends
  pub two_begin : take 20 (written (in_air (fine 1 ∷ glass f0 ∷ []))) ≡ 2 ∷ 0 ∷ 0 ∷ 0 ∷ 20 ∷ 0 ∷ 0 ∷ 0 ∷ 123 ∷ 29 ∷ 0 ∷ 0 ∷ 143 ∷ 29 ∷ 0 ∷ 0 ∷ 251 ∷ 5 ∷ 0 ∷ 0 ∷ []
  -- no book: a byte too many, at the end or between two parts; a kind, a step or a flag that is none
  pub five_zeros : read_book (0 ∷ no_surfaces) ≡ refused 14
  pub byte_behind : read_book (one ++ 0 ∷ []) ≡ refused 14
  pub byte_between : read_book (take 4 one ++ 13 ∷ take 7 (drop 5 one) ++ 0 ∷ drop 12 one) ≡ refused 14
  pub kind_2 : read_book (take 12 one ++ 2 ∷ drop 13 one) ≡ refused 14
  pub step_2 : read_book (take 13 one ++ 2 ∷ drop 14 one) ≡ refused 14
  pub flag_2 : read_book (take 14 one ++ 2 ∷ drop 15 one) ≡ refused 14
  -- equal for writing: roughnesses that are raised to one value, zeros of either sign, the flag
  pub raised_alike : distinct (metal f0 ∷ metal (neg f0) ∷ metal (decimal 1 1000000) ∷ metal (decimal 1 100000) ∷ []) ≡ metal f0 ∷ []
  pub zeros_alike : distinct (glass f1 ∷ sample Glass dense_samples f1 (neg f0) ∷ []) ≡ glass f1 ∷ []
  pub flag_alike : distinct (metal f0 ∷ record (metal f0) { two_sided = true } ∷ []) ≡ metal f0 ∷ []
  pub twice_written : written (in_air (metal f0 ∷ metal f0 ∷ [])) ≡ one
  -- not equal: another roughness, kind, k or spacing
  pub unlike : distinct (metal f0 ∷ metal f1 ∷ glass f1 ∷ sample Metal dense_samples f1 f0 ∷ fine 10 ∷ []) ≡ metal f0 ∷ metal f1 ∷ glass f1 ∷ sample Metal dense_samples f1 f0 ∷ fine 10 ∷ []
  -- eight of the finer spacing make a book, and nine one too long
  pub eight : length (written (in_air (map fine (1 ∷ 2 ∷ 3 ∷ 4 ∷ 5 ∷ 6 ∷ 7 ∷ 8 ∷ [])))) ≡ 60444
  pub nine : write_book (in_air (map fine (1 ∷ 2 ∷ 3 ∷ 4 ∷ 5 ∷ 6 ∷ 7 ∷ 8 ∷ 9 ∷ []))) 100000 ≡ refused 14
  -- read: a part that is refused, and parts that agree, which count first
  pub too_rough : read_book (book_of_surfaces (metal f2 ∷ [])) ≡ refused 1
  pub agreeing : read_book (book_of_surfaces (metal f0 ∷ metal (neg f0) ∷ [])) ≡ refused 14
  pub agreeing_too_rough : read_book (book_of_surfaces (metal f2 ∷ metal f2 ∷ [])) ≡ refused 14
  -- written: a roughness that isn't as it was given; an outer spectrum that isn't air's, which metal doesn't read; the first surface that is refused decides, before a book that is too long
  pub not_as_given : check_written (offered_in_air (record (metal f0) { roughness = splat f1 })) ≡ rejected 1
  pub not_in_air : check_written (record { surface = glass f0; outer = replicate dense_samples f2 }) ≡ rejected 13
  pub no_outer : write_book (record { surface = metal f0; outer = [] } ∷ []) 1543 ≡ given one
  pub first_refused : write_book (in_air (sample Metal dense_samples f0 f_1 ∷ metal f2 ∷ [])) 65536 ≡ refused 3
  pub last_refused : write_book (in_air (map fine (1 ∷ 2 ∷ 3 ∷ 4 ∷ 5 ∷ 6 ∷ 7 ∷ 8 ∷ 9 ∷ []) ++ metal f2 ∷ [])) 100000 ≡ refused 1
