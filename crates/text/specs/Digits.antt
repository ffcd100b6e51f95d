-- The values of hexadecimal and of decimal digits, and hexadecimal digits that are written. Definitions only.
use Rattle.std.specs.Prelude.{ℕ, zero, suc, ◌+◌, ◌*◌, ◌/◌, ◌%◌, Option, Some, None, option_and_then, List, [], ◌∷◌, cond, length, nat_lt, ◌==◌}
use Rattle.std.specs.Char.{digit_value, is_digit, digit_char}

-- the value of a digit in a base: from ten on a letter, small or capital; none where the byte is no digit there
abbrev pub digit : ℕ → ℕ → Option ℕ
digit base b = cond (is_digit b base) (Some (digit_value b)) None

-- the value of digits that stand behind those of n; none where one of the bytes is no digit
abbrev pub value_behind : ℕ → ℕ → List ℕ → Option ℕ
value_behind base n [] = Some n
value_behind base n (b ∷ t) = option_and_then (λ d. value_behind base (n * base + d) t) (digit base b)

-- the value of sixteen hexadecimal digits
unfoldable pub hex16 : List ℕ → Option ℕ
hex16 t = cond (length t == 16) (value_behind 16 0 t) None

-- the value of no more than five decimal digits
unfoldable pub decimal : List ℕ → Option ℕ
decimal t = cond (nat_lt 5 (length t)) None (value_behind 10 0 t)

-- ---- digits that are written
-- the glyph of a digit, whose letters are small
abbrev pub glyph : ℕ → ℕ
glyph d = digit_char d

-- the last k hexadecimal digits of n, and a text behind them
abbrev pub digits_before : ℕ → ℕ → List ℕ → List ℕ
digits_before zero n t = t
digits_before (suc k) n t = digits_before k (n / 16) (glyph (n % 16) ∷ t)

-- the sixteen hexadecimal digits of 64 bits
unfoldable pub hex_text : ℕ → List ℕ
hex_text n = digits_before 16 n []
