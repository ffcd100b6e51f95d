-- Numbers in four bytes at a place: read where they were written (`word_at-word`), and the bytes there those of the number that they are (`word_front`).
use Rattle.std.proofs.Common.{◌≡◌, ℕ, ◌+◌, ◌<◌, ◌≤◌, ◌^◌, List, ◌++◌, length, take, drop, refl, sym, ap, ◌∙◌, arith, take-append-drop, drop-drop}
use Rattle.std.specs.Int.{w32, from_le_bytes}
use Rattle.std.proofs.lemmas.List.{take_at}
use Rattle.std.proofs.lemmas.Nat.{from_le_bytes-to_le_bytes_4}
use Rattle.book.specs.Bytes.{word, word_at, AreBytes}
use Rattle.book.proofs.Doubles.{word_bytes}

-- what stands further on
pub drop_further : (b : List ℕ) (i m j : ℕ) → i + m ≡ j → drop j b ≡ drop m (drop i b)
drop_further b i m j e = rw (← e) (sym (drop-drop m i b))

pub word_at-word : (b r : List ℕ) (i n : ℕ) → drop i b ≡ word n ++ r → n < 2 ^ 32 → word_at b i ≡ n
unfolding word word_at
word_at-word b r i n e h =
    ap (λ (l : List ℕ). from_le_bytes w32 (take 4 l)) e ∙ ap (from_le_bytes w32) (take_at (word n) r 4 refl) ∙ from_le_bytes-to_le_bytes_4 n h

-- bytes begin with the four of the number that stands there
pub word_front : (b : List ℕ) (i j : ℕ) → AreBytes b → i + 4 ≡ j → j ≤ length b → drop i b ≡ word (word_at b i) ++ drop j b
word_front b i j h e l =
    sym (take-append-drop 4 (drop i b)) ∙ rw (word_bytes b i h (omega arith), drop_further b i 4 j e) refl
