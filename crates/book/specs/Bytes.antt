-- Numbers and doubles as bytes, low byte first (document 02, vi). Definitions only.
use Rattle.std.specs.Prelude.{ℕ, ◌+◌, ◌<◌, List, ◌++◌, map, take, drop, length, get_or, flat_map, Float}
use Rattle.std.specs.Int.{w32, w64, to_le_bytes, from_le_bytes}
use Rattle.std.specs.Simd.{first_chunks}
use Rattle.std.specs.Float.{binary64}
use Rattle.std.specs.Float.Ieee.{to_bits, of_bits}

-- ---- a number in four bytes
unfoldable pub word : ℕ → List ℕ
word n = to_le_bytes w32 n

-- the number in the four bytes from i on
unfoldable pub word_at : List ℕ → ℕ → ℕ
word_at b i = from_le_bytes w32 (take 4 (drop i b))

-- ---- a double in eight, by its bit pattern
unfoldable pub double : Float → List ℕ
double x = to_le_bytes w64 (to_bits binary64 x)

unfoldable pub double_in : List ℕ → Float
double_in b = of_bits binary64 (from_le_bytes w64 b)

unfoldable pub doubles : List Float → List ℕ
doubles xs = flat_map double xs

-- the first n doubles of some bytes
unfoldable pub doubles_in : ℕ → List ℕ → List Float
doubles_in n b = map double_in (first_chunks 8 n b)

-- ---- a buffer with some bytes put at a place of it
unfoldable pub put : List ℕ → ℕ → List ℕ → List ℕ
put before at bytes = take at before ++ bytes ++ drop (at + length bytes) before

-- ---- every member is a byte, as every u8 is
abbrev pub AreBytes : List ℕ → Type 0
AreBytes b = (i : ℕ) → get_or b i 0 < 256
