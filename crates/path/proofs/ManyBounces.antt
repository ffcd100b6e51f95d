-- Laws of the definitions of many bounces: which numbers a bounce has (`read`), how long the numbers are, and that one more bounce is stored after those before it (`stored`).
use Rattle.std.proofs.Common.{◌≡◌, ℕ, zero, suc, ◌+◌, ◌*◌, ◌<◌, ◌≤◌, List, [], ◌++◌, get_or, length, take, drop, sym, refl, ap, ◌∙◌, add-one, arith, length-append, drop-drop, take_at}
use lib.Ieee.{Float}
use Rattle.std.specs.Simd.{first_chunks}
use Rattle.std.proofs.lemmas.List.{get_or-take}
use lib.Seq.{paste, drop-append-add}
use Rattle.optics.specs.Surface.{Microsurface}
use Rattle.path.specs.Many.{result_numbers, numbers_out, bounced, bounced_at, all_bounced}

-- the i-th of the first k parts of 27
part : (k : ℕ) (xs : List Float) (i : ℕ) → i < k → get_or (first_chunks 27 k xs) i [] ≡ take 27 (drop (27 * i) xs)
part zero xs i h = elim h [ ]
part (suc k) xs zero h = refl
part (suc k) xs (suc i) h =
    let next : 27 + 27 * i ≡ 27 * suc i = omega arith in
    part k (drop 27 xs) i (omega arith)
    ∙ ap (λ (l : List Float). take 27 l) (drop-drop (27 * i) 27 xs)
    ∙ ap (λ (j : ℕ). take 27 (drop j xs)) next

pub read : (m : Microsurface) (input : List Float) (parts : List (List Float)) (k n i : ℕ) → parts ≡ first_chunks 27 k input → i < n → n ≤ k
    → bounced m (get_or (take n parts) i []) ≡ bounced_at m input i
unfolding bounced_at
read m input parts k n i e below room = ap (λ (l : List Float). bounced m l) (get_or-take n parts i [] below ∙ ap (λ (l : List (List Float)). get_or l i []) e ∙ part k input i (omega arith))

length-bounced_at : (m : Microsurface) (input : List Float) (n : ℕ) → length (bounced_at m input n) ≡ 18
unfolding bounced_at bounced numbers_out result_numbers
length-bounced_at m input n = refl

-- what a list of 18 is, cut at 18
all_18 : (m : Microsurface) (input : List Float) (n : ℕ) → take 18 (bounced_at m input n) ≡ bounced_at m input n
unfolding bounced_at bounced numbers_out result_numbers
all_18 m input n = refl

length_all : (m : Microsurface) (input : List Float) (n : ℕ) → length (all_bounced m input n) ≡ 18 * n
unfolding all_bounced
length_all m input zero = refl
length_all m input (suc n) =
    let h = length-append (all_bounced m input n) (bounced_at m input n) in
    let a = length_all m input n in
    let b = length-bounced_at m input n in
    omega (arith, add-one n)

-- the first n + 1 are the first n and the next
last : (m : Microsurface) (input output : List Float) (n : ℕ)
    → all_bounced m input n ++ bounced_at m input n ++ drop (18 * (n + 1)) output
    ≡ all_bounced m input (n + 1) ++ drop (18 * (n + 1)) output
unfolding all_bounced
last m input output n =
    ap (λ (k : ℕ). all_bounced m input k ++ drop (18 * (n + 1)) output) (sym (add-one n))

-- the numbers of one more bounce, pasted after those of the first n
one_more : (m : Microsurface) (input output : List Float) (n : ℕ)
    → paste (all_bounced m input n ++ drop (18 * n) output) (18 * n) (bounced_at m input n) 18
    ≡ all_bounced m input (n + 1) ++ drop (18 * (n + 1)) output
one_more m input output n =
    let A : List Float = all_bounced m input n in
    let R : List Float = bounced_at m input n in
    let D : List Float = drop (18 * n) output in
    let len : length A ≡ 18 * n = length_all m input n in
    let before : take (18 * n) (A ++ D) ≡ A = take_at A D (18 * n) len in
    let next : 18 * n + 18 ≡ 18 * (n + 1) = omega arith in
    let after : drop (18 * n + 18) (A ++ D) ≡ drop (18 * (n + 1)) output =
    ap (λ (k : ℕ). drop (k + 18) (A ++ D)) (sym len)
    ∙ drop-append-add A D 18
    ∙ drop-drop 18 (18 * n) output
    ∙ ap (λ (k : ℕ). drop k output) next in
    ap (λ (l : List Float). l ++ take 18 R ++ drop (18 * n + 18) (A ++ D)) before
    ∙ ap (λ (l : List Float). A ++ l ++ drop (18 * n + 18) (A ++ D)) (all_18 m input n)
    ∙ ap (λ (l : List Float). A ++ R ++ l) after
    ∙ last m input output n

-- and so after a turn of the loop
pub stored : (m : Microsurface) (input output now next numbers : List Float) (i : ℕ)
    → now ≡ all_bounced m input i ++ drop (18 * i) output → next ≡ paste now (18 * i) numbers 18 → numbers ≡ bounced_at m input i
    → next ≡ all_bounced m input (i + 1) ++ drop (18 * (i + 1)) output
stored m input output now next numbers i e f g =
    f
    ∙ ap (λ (l : List Float). paste now (18 * i) l 18) g
    ∙ ap (λ (l : List Float). paste l (18 * i) (bounced_at m input i) 18) e
    ∙ one_more m input output i
