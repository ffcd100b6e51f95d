-- How a book's bytes are laid out (document 02, vi): the count, a pair of offset and length for each part, then the parts without gaps. Definitions only.
use Rattle.std.specs.Prelude.{ℕ, zero, suc, ◌+◌, ◌*◌, ◌==◌, leb, Bool, true, ◌&&◌, ◌||◌, not, cond, List, [], ◌∷◌, ◌++◌, length, take, drop, get_or, flat_map}
use Rattle.std.specs.List.{list_any, list_all}
use Rattle.std.specs.Str.{bytes_eq}
use Rattle.numbers.specs.DenseSpectrum.{dense_samples, fine_samples}
use Rattle.optics.specs.Surface.{is_kind_code}
use Rattle.book.specs.Bytes.{word, word_at}

-- a book is no longer than this
abbrev pub book_max : ℕ
book_max = 65536

-- and has no more surfaces than this: one more part would make it longer
abbrev pub surfaces_max : ℕ
surfaces_max = 42

-- ---- what is written
-- where the parts of a book begin that has so many
abbrev pub parts_start : ℕ → ℕ
parts_start n = 4 + 8 * n

-- the pairs of parts that lie from `at` on, one after the other
unfoldable pub pairs : ℕ → List (List ℕ) → List ℕ
pairs at [] = []
pairs at (p ∷ ps) = word at ++ word (length p) ++ pairs (at + length p) ps

unfoldable pub book_of : List (List ℕ) → List ℕ
book_of ps = word (length ps) ++ pairs (parts_start (length ps)) ps ++ flat_map (λ p. p) ps

-- ---- what is read
unfoldable pub count_in : List ℕ → ℕ
count_in b = word_at b 0

-- the part of the pair at i: as many bytes as its length says, from its offset on
unfoldable pub part_at : List ℕ → ℕ → List ℕ
part_at b i = take (word_at b (8 + 8 * i)) (drop (word_at b (4 + 8 * i)) b)

-- the parts of n pairs, from the one at i on
unfoldable pub parts_from : List ℕ → ℕ → ℕ → List (List ℕ)
parts_from b i zero = []
parts_from b i (suc n) = part_at b i ∷ parts_from b (suc i) n

unfoldable pub parts : List ℕ → List (List ℕ)
parts b = parts_from b 0 (count_in b)

-- ---- a part: kind, step and flag, a byte each, then the roughness and the two spectra
abbrev pub kind_byte : List ℕ → ℕ
kind_byte p = get_or p 0 0

abbrev pub step_byte : List ℕ → ℕ
step_byte p = get_or p 1 0

abbrev pub flag_byte : List ℕ → ℕ
flag_byte p = get_or p 2 0

abbrev pub is_flag : ℕ → Bool
is_flag flag = leb flag 1

-- a spectrum's entries are 5 nm apart or 1: so many has one of a step, and that is the step of so many
unfoldable pub samples_of : ℕ → ℕ
samples_of step = cond (step == 1) fine_samples dense_samples

unfoldable pub step_for : ℕ → ℕ
step_for samples = cond (samples == fine_samples) 1 5

unfoldable pub is_step : ℕ → Bool
is_step step = step == 5 || step == 1

-- 1,531 bytes or 7,547
unfoldable pub part_length : ℕ → ℕ
part_length samples = 11 + 16 * samples

unfoldable pub is_part : List ℕ → Bool
is_part p =
    is_kind_code (kind_byte p) && is_step (step_byte p) && is_flag (flag_byte p)
    && length p == part_length (samples_of (step_byte p))

-- a book is what its own parts give, within the limit
unfoldable pub is_book : List ℕ → Bool
is_book b = leb (length b) book_max && bytes_eq b (book_of (parts b)) && list_all is_part (parts b)

-- ---- repetition, for any equality of the members
-- none is equal to an earlier one
unfoldable pub none_equal : {A : Type 0} → (A → A → Bool) → List A → Bool
none_equal same [] = true
none_equal same (x ∷ xs) = not (list_any (λ y. same y x) xs) && none_equal same xs

-- less each that is equal to an earlier one; these came before
unfoldable pub new_after : {A : Type 0} → (A → A → Bool) → List A → List A → List A
new_after same before [] = []
new_after same before (x ∷ xs) =
    cond (list_any (same x) before) (new_after same (before ++ x ∷ []) xs) (x ∷ new_after same (before ++ x ∷ []) xs)
