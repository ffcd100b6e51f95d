-- The parts of a book from one on: it and those behind it (`rest_more`), or none at the end (`rest_all`). So a function of what is left
-- goes on part by part.
use Rattle.std.proofs.Common.{◌≡◌, ℕ, suc, ◌+◌, ◌-◌, ◌≤◌, ◌<◌, true, List, [], ◌∷◌, length, arith, add-one}
use Rattle.std.proofs.Math.Nat.{sub-zero}
use Rattle.book.specs.Layout.{count_in, part_at, parts_from, parts, is_book}
use Rattle.book.proofs.layout.PairByPair.{laid_out_in}

-- a book has room for the count of its parts
pub has_count : (b : List ℕ) → is_book b ≡ true → 4 ≤ length b
has_count b h = (laid_out_in b h).counted

-- the parts from the one at i on
abbrev pub rest : List ℕ → ℕ → List (List ℕ)
rest b i = parts_from b i (count_in b - i)

pub rest_none : (b : List ℕ) → rest b 0 ≡ parts b
unfolding parts
rest_none b = rw sub-zero

pub rest_more : (b : List ℕ) (i : ℕ) → i < count_in b → rest b i ≡ part_at b i ∷ rest b (i + 1)
unfolding parts_from
rest_more b i within =
    let count : count_in b - i ≡ suc (count_in b - (i + 1)) = omega arith in
    rw (count, add-one)

pub rest_all : (b : List ℕ) (i : ℕ) → count_in b ≤ i → rest b i ≡ []
unfolding parts_from
rest_all b i all =
    let count : count_in b - i ≡ 0 = omega arith in
    rw count
