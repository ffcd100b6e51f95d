-- What is read at a place of some bytes is what the part from there on has (`read_from`). By the bytes of the number, for every width.
use Rattle.std.proofs.Common.{◌≡◌, ℕ, zero, suc, ◌+◌, ◌-◌, ◌<◌, ◌≤◌, List, take, drop, slice_index, arith, ap}
use Rattle.std.proofs.lemmas.Simd.{get_or-chunk}
use Rattle.std.specs.Int.{Width, byte_len, byte_worth, sum_through, from_le_bytes}

same_sum : (f g : ℕ → ℕ) (k : ℕ) → ((i : ℕ) → i ≤ k → f i ≡ g i) → sum_through f k ≡ sum_through g k
same_sum f g zero same = same 0 (omega arith)
same_sum f g (suc k) same =
    rw (same_sum f g k (λ i below. same i (omega arith)), same (suc k) (omega arith))

-- the number in the bytes from `at` on, byte by byte
pub read_from : (w : Width) (b : List ℕ) (at n : ℕ) → byte_len w - 1 < n
    → from_le_bytes w (take n (drop at b)) ≡ sum_through (λ i. byte_worth i (slice_index b (at + i))) (byte_len w - 1)
read_from w b at n within =
    same_sum (λ i. byte_worth i (slice_index (take n (drop at b)) i)) (λ i. byte_worth i (slice_index b (at + i))) (byte_len w - 1)
    (λ i below. ap (byte_worth i) (get_or-chunk at n b i 0 (omega arith)))
