-- The doubles of some bytes, one more at a time (`doubles_more`), and a spectrum's places with one more filled (`laid_more`), entries in all
-- (`copied`), or one number in all (`filled`): what is laid is written over zeros (`laid_over`).
use Rattle.std.proofs.Common.{◌≡◌, ℕ, zero, suc, ◌+◌, ◌*◌, ◌<◌, ◌≤◌, List, [], ◌∷◌, ◌++◌, take, drop, set, length, replicate, arith, ap, ◌∙◌, Float, zero-add}
use Rattle.std.proofs.lemmas.List.{drop-drop, length-take-le, length-replicate, drop-replicate}
use Rattle.floats.specs.Float.{f0}
use Rattle.numbers.specs.Written.{over}
use Rattle.book.specs.Bytes.{double_in, doubles_in}
use Rattle.book.specs.Record.{laid}
use Rattle.book.proofs.Over.{over_more}

-- the doubles of some bytes, and those behind them
pub doubles_in-add : (m n : ℕ) (b : List ℕ) → doubles_in (m + n) b ≡ doubles_in m b ++ doubles_in n (drop (8 * m) b)
unfolding doubles_in
doubles_in-add zero n b = rw zero-add
doubles_in-add (suc m) n b =
    let count : suc m + n ≡ suc (m + n) = omega arith in
    let place : 8 * suc m ≡ 8 + 8 * m = omega arith in
    rw (count, place) (ap (λ xs. double_in (take 8 b) ∷ xs) (doubles_in-add m n (drop 8 b) ∙ rw drop-drop))

-- one double more
pub doubles_more : (n : ℕ) (b : List ℕ) → doubles_in (n + 1) b ≡ doubles_in n b ++ double_in (take 8 (drop (8 * n) b)) ∷ []
unfolding doubles_in
doubles_more n b = doubles_in-add n 1 b

abbrev zeros : List Float
zeros = replicate 471 f0

laid_over : (xs : List Float) → laid xs ≡ over xs zeros
unfolding laid over
laid_over xs = rw (drop-replicate (length xs) 471 f0)

-- the next place filled
pub laid_more : (xs : List Float) (x : Float) (n : ℕ) → length xs ≡ n → n < 471 → set (laid xs) n x ≡ laid (xs ++ x ∷ [])
laid_more xs x n long below =
    rw (laid_over xs, laid_over (xs ++ x ∷ [])) (over_more xs zeros x n long (rw (length-replicate 471 f0) below))

-- entries at the front
pub copied : (xs front : List Float) → front ≡ xs → front ++ drop (length xs) zeros ≡ laid xs
unfolding over
copied xs front is = rw (is, laid_over xs)

-- the front filled with one number
pub filled : (n : ℕ) (x : Float) (front : List Float) → n ≤ 471 → front ≡ replicate (length (take n zeros)) x
    → front ++ drop n zeros ≡ laid (replicate n x)
unfolding over
filled n x front below is =
    rw (is, length-take-le n zeros (rw (length-replicate 471 f0) below), laid_over (replicate n x), length-replicate n x)
