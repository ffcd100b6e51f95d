-- Numbers and doubles as bytes: what is written is read again, and the bytes of what is read are those that it was read from.
-- Of the second a number is one of four bytes (`word_bytes`), and a double no NaN (`doubles_bytes`): the patterns of the NaNs are many and the value one.
-- Each rests on the kit's law for the width; the lists of doubles follow by induction, eight bytes at a step.
use Rattle.std.proofs.Common.{◌≡◌, refl, ap, ap₂, ◌∙◌, ℕ, zero, suc, ◌+◌, ◌*◌, ◌^◌, ◌<◌, ◌≤◌, arith, lit<, List, [], ◌∷◌, ◌++◌, append_assoc, length, take, drop, length-append, length-drop, length-take-le, get_or-drop, take-add, drop_at, Float}
use Rattle.std.specs.Float.{binary64, NotNan}
use Rattle.std.specs.Float.Ieee.{to_bits, of_bits}
use Rattle.std.specs.Int.{w64, from_le_bytes}
use Rattle.std.specs.List.{AllByRecursion}
use Rattle.std.proofs.lemmas.Nat.{from_le_bytes-to_le_bytes_4, from_le_bytes-to_le_bytes_8, le_bytes_4, le_bytes_8}
use Rattle.std.proofs.lemmas.List.Concat.{flat_map-append}
use lib.Ieee.Bits.{of_bits-to_bits, to_bits-of_bits, to_bits-lt, of_bits-fits}
use Rattle.optics.specs.F64.{F64, AllF64}
use Rattle.book.specs.Bytes.{word, word_at, double, double_in, doubles, doubles_in, AreBytes}

-- ---- bytes of a part of some bytes
pub bytes_drop : (n : ℕ) (b : List ℕ) → AreBytes b → AreBytes (drop n b)
bytes_drop n b h i = rw get_or-drop (h (n + i))

pub bytes_take : (n : ℕ) (b : List ℕ) → AreBytes b → AreBytes (take n b)
bytes_take zero b h i = lit< tt
bytes_take (suc n) [] h i = lit< tt
bytes_take (suc n) (x ∷ b) h zero = h 0
bytes_take (suc n) (x ∷ b) h (suc i) = bytes_take n b (λ (k : ℕ). h (suc k)) i

-- ---- a number in four bytes
pub length-word : (n : ℕ) → length (word n) ≡ 4
unfolding word
length-word n = refl

pub word_front : (n : ℕ) (rest : List ℕ) → n < 2 ^ 32 → word_at (word n ++ rest) 0 ≡ n
unfolding word word_at
word_front n rest h = from_le_bytes-to_le_bytes_4 n h

pub word_bytes : (b : List ℕ) (i : ℕ) → AreBytes b → i + 4 ≤ length b → word (word_at b i) ≡ take 4 (drop i b)
unfolding word word_at
word_bytes b i h room =
    le_bytes_4 (take 4 (drop i b)) _ (length-take-le 4 (drop i b) (rw length-drop (omega arith))) (bytes_take 4 (drop i b) (bytes_drop i b h)) refl

pub word_at-lt : (b : List ℕ) (i : ℕ) → AreBytes b → word_at b i < 2 ^ 32
unfolding word_at
word_at-lt b i h =
    let c = bytes_take 4 (drop i b) (bytes_drop i b h) in
    omega (arith, c 0, c 1, c 2, c 3)

-- ---- a double in eight
pub length-double : (x : Float) → length (double x) ≡ 8
unfolding double
length-double x = refl

pub double_front : (x : Float) (rest : List ℕ) → F64 x → double_in (take 8 (double x ++ rest)) ≡ x
unfolding double double_in
double_front x rest f =
    ap (of_bits binary64) (from_le_bytes-to_le_bytes_8 (to_bits binary64 x) (to_bits-lt binary64 x f)) ∙ of_bits-to_bits binary64 x f

pub double_in-double : (x : Float) → F64 x → double_in (double x) ≡ x
unfolding double double_in
double_in-double x f = double_front x [] f

pub double_in-fits : (b : List ℕ) → F64 (double_in b)
unfolding double_in
double_in-fits b = of_bits-fits binary64 (from_le_bytes w64 b)

eight_bytes-lt : (b : List ℕ) → AreBytes b → from_le_bytes w64 b < 2 ^ 64
eight_bytes-lt b h = omega (arith, h 0, h 1, h 2, h 3, h 4, h 5, h 6, h 7)

pub double-double_in : (b : List ℕ) → AreBytes b → length b ≡ 8 → NotNan (double_in b) → double (double_in b) ≡ b
unfolding double double_in
double-double_in b h l n =
    le_bytes_8 b _ l h (to_bits-of_bits binary64 (from_le_bytes w64 b) (eight_bytes-lt b h) n)

-- ---- doubles one after the other
abbrev pub NoNan : List Float → Type 0
NoNan xs = AllByRecursion NotNan xs

pub length-doubles : (xs : List Float) → length (doubles xs) ≡ 8 * length xs
unfolding doubles
length-doubles [] = refl
length-doubles (x ∷ xs) =
    omega (arith, length-append (double x) (doubles xs), length-double x, length-doubles xs)

pub doubles-append : (xs ys : List Float) → doubles (xs ++ ys) ≡ doubles xs ++ doubles ys
unfolding doubles
doubles-append xs ys = flat_map-append double xs ys

pub length-doubles_in : (n : ℕ) (b : List ℕ) → length (doubles_in n b) ≡ n
unfolding doubles_in
length-doubles_in zero b = refl
length-doubles_in (suc n) b = ap suc (length-doubles_in n (drop 8 b))

pub doubles_in-fits : (n : ℕ) (b : List ℕ) → AllF64 (doubles_in n b)
unfolding doubles_in AllF64
doubles_in-fits zero b = tt
doubles_in-fits (suc n) b = (double_in-fits (take 8 b), doubles_in-fits n (drop 8 b))

pub doubles_front : (xs : List Float) (rest : List ℕ) → AllF64 xs → doubles_in (length xs) (doubles xs ++ rest) ≡ xs
unfolding doubles_in doubles AllF64
doubles_front [] rest f = refl
doubles_front (x ∷ xs) rest f =
    rw append_assoc
    (ap₂ ◌∷◌ (double_front x (doubles xs ++ rest) f.0) (ap (doubles_in (length xs)) (drop_at (double x) (doubles xs ++ rest) 8 (length-double x)) ∙ doubles_front xs rest f.1))

pub doubles_bytes : (n : ℕ) (b : List ℕ) → AreBytes b → 8 * n ≤ length b → NoNan (doubles_in n b) → doubles (doubles_in n b) ≡ take (8 * n) b
unfolding doubles_in doubles
doubles_bytes zero b h room numbers = refl
doubles_bytes (suc n) b h room numbers =
    let e : 8 * suc n ≡ 8 + 8 * n = omega arith in
    let first = double-double_in (take 8 b) (bytes_take 8 b h) (length-take-le 8 b (omega arith)) numbers.0 in
    let rest = doubles_bytes n (drop 8 b) (bytes_drop 8 b h) (rw length-drop (omega arith)) numbers.1 in
    rw (e, take-add) (ap₂ ◌++◌ first rest)
