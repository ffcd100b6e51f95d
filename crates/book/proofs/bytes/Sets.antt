-- Bytes put into a buffer, as one set after the other (`put_is`): what is put behind what was put is put as one (`sets_next`, `behind`), and
-- bytes apart may be put in either order (`sets_apart`). By induction on the bytes.
use Rattle.std.proofs.Common.{◌≡◌, ℕ, suc, ◌+◌, ◌-◌, ◌*◌, ◌<◌, ◌≤◌, List, [], ◌∷◌, ◌++◌, length, get_or, take, drop, arith, refl, sym, ap, ◌∙◌, append_assoc, add-zero, length-append, Float}
use Rattle.std.proofs.Math.ListN.{set}
use Rattle.std.proofs.Math.Nat.{add-suc, suc-add}
use Rattle.std.proofs.Math.Seq.{sets, sets-eq, length-sets, set_comm, drop-drop}
use Rattle.std.proofs.lemmas.List.{at_drop_more, drop_all, append-nil}
use borrow.Rule.Slice.PartMut.{put_mid}
use Rattle.book.specs.Bytes.{double, doubles, put}
use Rattle.book.proofs.Doubles.{length-double}

-- ---- what the contracts say
pub put_is : (d : List ℕ) (at : ℕ) (s : List ℕ) → at + length s ≤ length d → put d at s ≡ sets d at s
unfolding put
put_is d at s room = sym (sets-eq s d at room)

-- a part of n bytes that was lent, and comes back as s
pub lent : (d now s : List ℕ) (at n : ℕ) → now ≡ s → length s ≡ n → at + n ≤ length d → put_mid at (at + n - at) d now ≡ put d at s
unfolding put
lent d now s at n is e room =
    let k : at + (at + n - at) ≡ at + length s = omega arith in
    rw (is, drop-drop (at + n - at) at d, k, append_assoc (take at d) s (drop (at + length s) d))

-- ---- one after the other
sets_behind : (d : List ℕ) (i : ℕ) (xs ys : List ℕ) → sets (sets d i xs) (i + length xs) ys ≡ sets d i (xs ++ ys)
sets_behind d i [] ys = rw add-zero
sets_behind d i (x ∷ xs) ys = rw (add-suc i (length xs), ← suc-add i (length xs)) (sets_behind (set d i x) (suc i) xs ys)

pub sets_next : (d : List ℕ) (i to : ℕ) (xs ys : List ℕ) → to ≡ i + length xs → sets (sets d i xs) to ys ≡ sets d i (xs ++ ys)
sets_next d i to xs ys e = rw e (sets_behind d i xs ys)

-- ---- apart
set_apart : (d : List ℕ) (i : ℕ) (xs : List ℕ) (j y : ℕ) → i + length xs ≤ j → set (sets d i xs) j y ≡ sets (set d j y) i xs
set_apart d i [] j y h = refl
set_apart d i (x ∷ xs) j y h =
    set_apart (set d i x) (suc i) xs j y (omega arith) ∙ ap (λ (l : List ℕ). sets l (suc i) xs) (set_comm d i j x y (λ e. omega arith))

pub sets_apart : (d : List ℕ) (i : ℕ) (xs : List ℕ) (j : ℕ) (ys : List ℕ) → i + length xs ≤ j → sets (sets d i xs) j ys ≡ sets (sets d j ys) i xs
sets_apart d i xs j [] h = refl
sets_apart d i xs j (y ∷ ys) h = rw (set_apart d i xs j y h) (sets_apart (set d j y) i xs (suc j) ys (omega arith))

-- ---- doubles
-- one double more: what is left is put behind it
pub one_more : (d now : List ℕ) (at i : ℕ) (xs : List Float) (x : Float)
    → now ≡ put d (at + 8 * i) (double (get_or xs i x)) → i < length xs → at + 8 * length xs ≤ length d
    → sets now (at + 8 * (i + 1)) (doubles (drop (i + 1) xs)) ≡ sets d (at + 8 * i) (doubles (drop i xs))
unfolding doubles
one_more d now at i xs x is within room =
    let y = double (get_or xs i x) in
    let n : length y ≡ 8 = length-double (get_or xs i x) in
    let next : at + 8 * (i + 1) ≡ at + 8 * i + length y = omega arith in
    rw (is, put_is d (at + 8 * i) y (omega arith), next, sets_behind d (at + 8 * i) y (doubles (drop (i + 1) xs)))
    (ap (sets d (at + 8 * i)) (sym (at_drop_more doubles xs i x within)))

-- ---- several puts, each behind the one before
pub behind : (d mid last s t : List ℕ) (at to : ℕ) → mid ≡ put d at s → last ≡ put mid to t → to ≡ at + length s
    → to + length t ≤ length d → last ≡ put d at (s ++ t)
behind d mid last s t at to first second next room =
    let long : length (put d at s) ≡ length d = rw (put_is d at s (omega arith)) (length-sets d at s) in
    rw (
      second,
      first,
      put_is (put d at s) to t (omega arith),
      put_is d at s (omega arith),
      put_is d at (s ++ t) (omega (arith, length-append s t)),
      sets_next d at to s t next,
    )

-- a buffer that is put full
pub full : (d s : List ℕ) → length s ≡ length d → put d 0 s ≡ s
unfolding put
full d s all = rw (drop_all (0 + length s) d (omega arith), append-nil)
