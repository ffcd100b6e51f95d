-- The square root digit by digit, as 02 (iii) asks for it: the digit recurrence in base 2 (Ercegovac and Lang,
-- Digital Arithmetic, 2004, chapter 6), which takes two bits of the operand for each digit of the root.
-- Definitions only; `each_digit` of proofs/square_root/RootDigits.antt proves `EachDigit`.
use Rattle.std.specs.Prelude.{◌≡◌, ℕ, zero, suc, ◌+◌, ◌-◌, ◌*◌, ◌/◌, ◌%◌, ◌^◌, ◌≤◌, ◌<◌, cond, leb}
pub use Rattle.floats.specs.declared.square_root.RootRem.{RootRem}

abbrev pub root_rem : ℕ → ℕ → RootRem
root_rem root rem = record { root = root; rem = rem }

-- One digit more, from the root, the remainder and the next two bits. x is the remainder with the two bits behind it, and
-- t = (2 root + 1)² - (2 root)² what the square grows by if the digit is 1: the digit is 1 where t is at most x.
unfoldable pub digit : ℕ → ℕ → ℕ → RootRem
digit root rem two =
    let x = 4 * rem + two in
    let t = 4 * root + 1 in
    cond (leb t x) (root_rem (2 * root + 1) (x - t)) (root_rem (2 * root) x)

-- An operand N below 4 ^ k is k pairs of bits, zeros in front among them. The digit after i others takes this pair, from the top:
unfoldable pub two_bits : ℕ → ℕ → ℕ → ℕ
two_bits k N i = N / 4 ^ (k - 1 - i) % 4

-- and this is the number formed by the bits that i digits have taken
unfoldable pub taken : ℕ → ℕ → ℕ → ℕ
taken k N i = N / 4 ^ (k - i)

-- root and remainder after i digits
unfoldable pub after : ℕ → ℕ → ℕ → RootRem
unfolding digit two_bits
after k N zero = root_rem 0 0
after k N (suc i) = let s = after k N i in digit s.root s.rem (two_bits k N i)

-- root * root + rem is n, and rem at most 2 * root: root is the whole root of n, and rem the remainder
pub record RootAndRemainder (n : ℕ) (s : RootRem) : Type 0 where
  pub same : s.root * s.root + s.rem ≡ n
  pub small : s.rem ≤ 2 * s.root

-- 02 (iii): for every operand and after each digit, root * root + rem is the number formed by the bits taken so far, and rem at
-- most 2 * root. 02 asks for at most 56 digits; it holds for any number k of them.
abbrev pub EachDigit : Type 0
EachDigit = (k N i : ℕ) → N < 4 ^ k → i ≤ k → RootAndRemainder (taken k N i) (after k N i)
