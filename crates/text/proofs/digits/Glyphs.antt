-- The value that `digit` guesses from a byte's bits: the byte is that value's glyph exactly if it is a hexadecimal digit, and then the value is its own. Each of the 256 bytes is looked at.
use Rattle.std.proofs.Common.{◌≡◌, ℕ, ◌+◌, ◌*◌, ◌/◌, ◌<◌, Bool, true, cond, not, ◌⊎◌, ◌||◌, eqb, Some, None, List, get_or, arith, refl, sym, ◌∙◌, bit_and}
use Rattle.std.proofs.lemmas.Bool.{agree_below, agree_below_at}
use Rattle.std.proofs.lemmas.Bool.Decides.{nat_tests}
use Rattle.std.specs.Char.{digit_value, is_digit}
use Rattle.std.specs.Prelude.{codes}
use Rattle.text.specs.Digits.{digit}

abbrev pub guess : ℕ → ℕ
guess b = bit_and (bit_and b 15 + b / 64 * 9) 15

abbrev small : List ℕ
small = codes "0123456789abcdef"

abbrev capital : List ℕ
capital = codes "0123456789ABCDEF"

-- the byte is one of the glyphs of its guess
abbrev is_glyph : ℕ → Bool
is_glyph b = eqb b (get_or small (guess b) 0) || eqb b (get_or capital (guess b) 0)

abbrev is_hex : ℕ → Bool
is_hex b = is_digit b 16

abbrev is_own : ℕ → Bool
is_own b = not (is_digit b 16) || eqb (guess b) (digit_value b)

abbrev always : ℕ → Bool
always b = true

glyphs_agree : agree_below is_glyph is_hex 256 ≡ true
glyphs_agree = refl

values_agree : agree_below is_own always 256 ≡ true
values_agree = refl

valued : (is_hex : Bool) (d v : ℕ) → is_hex ≡ true → (not is_hex || eqb d v) ≡ true → Some d ≡ cond is_hex (Some v) None
valued is_hex d v h own = grind (arith, nat_tests)

unvalued : (b x y v : ℕ) (is_hex : Bool) → (eqb b x || eqb b y) ≡ is_hex → (b ≡ x → ⊥) → (b ≡ y → ⊥) → None ≡ cond is_hex (Some v) None
unvalued b x y v is_hex same small capital = grind (arith, nat_tests)

either : (b x y : ℕ) → (b ≡ x) ⊎ (b ≡ y) → (eqb b x || eqb b y) ≡ true
either b x y e = grind (arith, nat_tests)

-- the value of a byte that is one of the two glyphs of its guess
pub of_glyph : (b : ℕ) → b < 256 → (b ≡ get_or small (guess b) 0) ⊎ (b ≡ get_or capital (guess b) 0) → Some (guess b) ≡ digit 16 b
of_glyph b below is =
    valued (is_digit b 16) (guess b) (digit_value b)
    (sym (agree_below_at is_glyph is_hex 256 b glyphs_agree below) ∙ either b (get_or small (guess b) 0) (get_or capital (guess b) 0) is)
    (agree_below_at is_own always 256 b values_agree below)

-- a byte that is neither has none
pub of_none : (b : ℕ) → b < 256 → (b ≡ get_or small (guess b) 0 → ⊥) → (b ≡ get_or capital (guess b) 0 → ⊥) → None ≡ digit 16 b
of_none b below not_small not_capital =
    unvalued b (get_or small (guess b) 0) (get_or capital (guess b) 0) (digit_value b) (is_digit b 16) (agree_below_at is_glyph is_hex 256 b glyphs_agree below) not_small not_capital
