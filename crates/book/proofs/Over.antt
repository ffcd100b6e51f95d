-- What is written over the front of memory, with one more behind it (`over_more`). By the place where the front ends.
use Rattle.std.proofs.Common.{◌≡◌, ℕ, ◌+◌, ◌<◌, List, [], ◌∷◌, ◌++◌, drop, set, get_or, length, sym, ◌∙◌}
use Rattle.std.proofs.lemmas.List.{length_push, append_assoc, set_at, drop_more}
use Rattle.numbers.specs.Written.{over}

pub over_more : {A : Type 0} (xs before : List A) (x : A) (n : ℕ) → length xs ≡ n → n < length before
    → set (over xs before) n x ≡ over (xs ++ x ∷ []) before
unfolding over
over_more xs before x n long below =
    rw (length_push xs x, long, drop_more before n x below)
    (set_at xs (get_or before n x) (drop (n + 1) before) x n long ∙ sym (append_assoc xs (x ∷ []) (drop (n + 1) before)))
