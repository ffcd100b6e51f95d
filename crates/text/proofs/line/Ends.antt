-- What ends a spectrum whose entries are all numbers is never their count: each takes a byte of the line or more, and where nothing is left the spectrum ends.
use Rattle.std.proofs.Common.{◌≡◌, ℕ, ◌<◌, ◌≤◌, Bool, true, false, cond, Ok, Err, Option, Some, None, List, [], ◌∷◌, length, get_or, drop, arith, refl, Float, eqb}
use Rattle.std.proofs.lemmas.Bool.Decides.{nat_tests}
use Rattle.std.proofs.lemmas.List.{length-drop}
use Rattle.std.specs.Float.{binary64}
use Rattle.std.specs.Float.Ieee.{of_bits}
use Rattle.std.specs.List.{position_or_len}
use Rattle.std.specs.Prelude.{is_some, ok_or, option_map, not}
use Rattle.text.specs.declared.faults.Fault.{Fault}
use Rattle.text.specs.declared.faults.Wrong.TheVariants.{Short, Number}
use Rattle.text.specs.Words.{is_blank, from_word, past_blanks}
use Rattle.text.specs.Line.{Left, begin, fault, number, past_number, number_bits, spectrum_ends, is_empty}

-- a spectrum ends where nothing is left
nothing_left : (t : List ℕ) (n : ℕ) → length t ≡ 0 → spectrum_ends (record { rest = t; begun = n }) ≡ true
unfolding spectrum_ends from_word
nothing_left [] n none = refl
nothing_left (b ∷ t) n none = absurd (omega arith)

pub at_end : (l : Left) → length l.rest ≡ 0 → spectrum_ends l ≡ true
at_end l none = nothing_left l.rest l.begun none

unless : (test : Bool) (t : List ℕ) → length (cond test [] t) ≤ length t
unless true t = omega arith
unless false t = omega arith

word_within : (t : List ℕ) → length (from_word t) ≤ length t
unfolding from_word
word_within t =
    let blanks : length (past_blanks t) ≤ length t = omega (arith, length-drop (position_or_len (λ b. not (is_blank b)) t) t) in
    omega (arith, unless (eqb (get_or (past_blanks t) 0 0) 35) (past_blanks t))

-- what is read as a number is there, and is one
read : (empty : Bool) (bits : Option ℕ) (e f : Fault) (x : Float) → Ok x ≡ cond empty (Err e) (ok_or (option_map (of_bits binary64) bits) f) → (empty ≡ false) × (is_some bits ≡ true)
read true bits e f x is = cc
read false None e f x is = absurd (cc)
read false (Some n) e f x is = (refl, refl)

cut : (t : List ℕ) (test : Bool) → is_empty t ≡ false → test ≡ true → length (cond test (drop 16 t) t) < length t
cut t test some is = rw is (let more : 0 < length t = grind (arith, nat_tests) in omega (arith, length-drop 16 t))

-- a number takes a byte of the line or more
pub shorter : (l : Left) (x : Float) → Ok x ≡ number l → length (past_number l).rest < length l.rest
unfolding number past_number
shorter l x is =
    let t = (begin l).rest in
    let r = read (is_empty t) (number_bits t) (fault (begin l) Short) (fault (begin l) Number) x is in
    omega (arith, cut t (is_some (number_bits t)) r.0 r.1, word_within l.rest)
