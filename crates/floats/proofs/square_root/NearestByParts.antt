-- A whole number q of up to 53 digits tested against the root of m * 2 ^ 52, with products that fit 64 bits: q is split in two parts,
-- and its square is taken away part by part. Proved: what passes is the whole number nearest to the root (`nearest_by_parts`).
-- It is the check that a root found in any other way than by its digits passes; nothing here computes one.
use Rattle.std.proofs.Common.{ℕ, ◌≡◌, sym, ap, ◌∙◌, subst, ◌+◌, ◌-◌, ◌*◌, ◌/◌, ◌%◌, ◌^◌, ◌≤◌, ◌<◌, arith}
use Rattle.floats.specs.RootSteps.{Nearest}

-- m * 2 ^ 52 less q * q, by the two parts of q: j counts 2 ^ 52, k counts 2 ^ 28, and 8 * 2 ^ 52 is 2 ^ 55
apart : (m q a b j k : ℕ) → q ≡ a * 2 ^ 27 + b → m + 8 ≡ j + 4 * (a * a) → j * 2 ^ 24 ≡ k + a * b
    → m * 2 ^ 52 + (b * b + 2 ^ 55) ≡ q * q + k * 2 ^ 28
apart m q a b j k h e f = let s : q * q ≡ a * a * 2 ^ 54 + a * b * 2 ^ 28 + b * b = ap (λ (z : ℕ). z * z) h ∙ square a b in omega arith
  where
    square : (a b : ℕ) → (a * 2 ^ 27 + b) * (a * 2 ^ 27 + b) ≡ a * a * 2 ^ 54 + a * b * 2 ^ 28 + b * b
    square a b = omega arith

pub nearest_by_parts : (m q j k : ℕ) → m + 8 ≡ j + 4 * (q / 2 ^ 27 * (q / 2 ^ 27)) → j * 2 ^ 24 ≡ k + q / 2 ^ 27 * (q % 2 ^ 27)
    → (w t : ℕ) → w ≡ k * 2 ^ 28 + q → t ≡ q % 2 ^ 27 * (q % 2 ^ 27) + 2 ^ 55 → t < w → w - t ≤ 2 * q → Nearest q (m * 2 ^ 52)
nearest_by_parts m q j k e f w t we te l u =
    between (m * 2 ^ 52) (q * q) (k * 2 ^ 28) q w t we
    (subst (λ (y : ℕ). m * 2 ^ 52 + y ≡ q * q + k * 2 ^ 28) (sym te) (apart m q (q / 2 ^ 27) (q % 2 ^ 27) j k (omega arith) e f)) l u
  where
    between : (n s k q w t : ℕ) → w ≡ k + q → n + t ≡ s + k → t < w → w - t ≤ 2 * q → (s < n + q) × (n ≤ s + q)
    between n s k q w t a b c d = (omega arith, omega arith)
