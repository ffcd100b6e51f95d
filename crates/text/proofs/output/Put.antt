-- What is put behind what was put is put as one text, also by std's writing in parts, and what is copied into the buffer is put: laws of `take` and `length`, part by part.
use Rattle.std.proofs.Common.{◌≡◌, ℕ, zero, suc, ◌+◌, ◌-◌, ◌<◌, ◌≤◌, List, [], ◌∷◌, ◌++◌, append_assoc, append-nil, length, get_or, take, drop, arith, refl, sym, ap, ◌∙◌, Float, length-append}
use Rattle.std.proofs.Math.Nat.{sub-zero, zero-sub}
use Rattle.std.proofs.lemmas.Grind.{common_steps}
use borrow.Rule.Slice.PartMut.{put_mid}
use Rattle.std.proofs.lemmas.List.{at_drop_more}
use Rattle.std.specs.List.{FoldsTo, concat}
use Rattle.std.specs.Fmt.{WritesInCalls}
use Rattle.std.specs.Prelude.{Result, Ok, Err, OnOk}
use Rattle.std.specs.declared.fmt.Error.{Error}
use Rattle.text.specs.Output.{Text, put, number_text, numbers_text}

take_append : (r : ℕ) (a b : List ℕ) → take r (a ++ b) ≡ take r a ++ take (r - length a) b
take_append zero a b = rw (zero-sub (length a))
take_append (suc r) [] b = rw (sub-zero (suc r))
take_append (suc r) (x ∷ a) b = let less : suc r - suc (length a) ≡ r - length a = omega arith in ap (λ t. x ∷ t) (take_append r a b) ∙ rw less

take_nothing : (r : ℕ) → take {A = ℕ} r [] ≡ []
take_nothing zero = refl
take_nothing (suc r) = refl

-- one text behind another is both of them
pub put_behind : (o : Text) (a b : List ℕ) → put (put o a) b ≡ put o (a ++ b)
put_behind o a b =
    let room : o.room - (length a + length b) ≡ (o.room - length a) - length b = omega arith in
    rw (take_append o.room a b, length-append a b, room, append_assoc o.written (take o.room a) (take (o.room - length a) b))

pub put_nothing : (o : Text) → put o [] ≡ o
put_nothing o = rw (take_nothing o.room, append-nil o.written, sub-zero o.room)

-- a text put in parts is put as a whole
parts_put : (parts : List (List ℕ)) (o n : Text) → FoldsTo (λ o s n. n ≡ put o s) o parts n → n ≡ put o (concat parts)
parts_put [] o n same = sym same ∙ sym (put_nothing o)
parts_put (t ∷ parts) o n f = parts_put parts f.0 n f.2 ∙ rw (f.1, put_behind o t (concat parts))

whole_put : (o n : Text) (t : List ℕ) → WritesInCalls (λ o s n. n ≡ put o s) o t n → n ≡ put o t
whole_put o n t w = rw (← w.whole) (parts_put w.parts o n w.calls)

-- what std writes, where it succeeds
pub all_put : (result : Result (Unit {0}) Error) (o n : Text) (t : List ℕ) → OnOk result (WritesInCalls (λ o s n. n ≡ put o s) o t n) → OnOk result (n ≡ put o t)
all_put (Ok done) o n t w = whole_put o n t w
all_put (Err failed) o n t w = tt

-- one number more
pub one_more : (o : Text) (xs : List Float) (i : ℕ) (d : Float) → i < length xs
    → put (put o (number_text (get_or xs i d))) (numbers_text (drop (i + 1) xs)) ≡ put o (numbers_text (drop i xs))
one_more o xs i d within = put_behind o (number_text (get_or xs i d)) (numbers_text (drop (i + 1) xs)) ∙ ap (put o) (sym (at_drop_more numbers_text xs i d within))

-- what is copied behind the bytes that are used, where there is room for all of it
pub copied : (bytes text part : List ℕ) (used : ℕ) → used ≤ length bytes → length text ≤ length bytes - used → part ≡ text
    → (let end = used + length text in let after = put_mid used (end - used) bytes part in record { written = take end after; room = length after - end }) ≡ put (record { written = take used bytes; room = length bytes - used }) text
copied bytes text part used within room is = grind (arith, common_steps)
