-- Text put into a buffer: what is written, and how many bytes more there is room for. What finds no room is left out. Definitions only.
use Rattle.std.specs.Prelude.{ℕ, ◌-◌, List, [], ◌∷◌, ◌++◌, length, take, Float}
use Rattle.std.specs.Float.{binary64}
use Rattle.std.specs.Float.Ieee.{to_bits}
use Rattle.text.specs.Digits.{hex_text}

pub record Text : Type 0 where
  pub written : List ℕ
  pub room : ℕ

abbrev pub put : Text → List ℕ → Text
put o t = record { written = o.written ++ take o.room t; room = o.room - length t }

-- a blank and a number: the hexadecimal digits of its bits
unfoldable pub number_text : Float → List ℕ
number_text x = 32 ∷ hex_text (to_bits binary64 x)

-- numbers, each behind a blank
abbrev pub numbers_text : List Float → List ℕ
numbers_text [] = []
numbers_text (x ∷ xs) = number_text x ++ numbers_text xs
