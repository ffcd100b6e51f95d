-- What is left of a line whose words are read one after the other, and what is read: a value, or what is wrong and with which word. Definitions only.
use Rattle.std.specs.Prelude.{ℕ, min, Bool, cond, ◌||◌, Option, Some, None, is_some, ok_or, option_map, option_and_then, Result, Ok, Err, List, [], length, take, drop, nat_lt, ◌==◌, slice_index, bytes_eq, codes, is_ok, zero, suc, ◌∷◌, ◌++◌, Float}
use Rattle.std.specs.Float.{binary64}
use Rattle.std.specs.Float.Ieee.{of_bits}
use denote.Ref.{Bor}
use Rattle.text.specs.declared.faults.Fault.{Fault}
use Rattle.text.specs.declared.faults.Indices.{Indices}
use Rattle.text.specs.declared.faults.Wrong.{Wrong}
use Rattle.text.specs.declared.faults.Wrong.TheVariants.{Index, Id, Flag, Number, Short, More}
use Rattle.text.specs.declared.line.Line.{Line}
use Rattle.text.specs.Answers.{one_more}
use Rattle.text.specs.Digits.{hex16, decimal}
use Rattle.text.specs.Words.{is_blank, from_word, first_word, behind_word}

-- what is left of a line, and how many of its words were begun
pub record Left : Type 0 where
  pub rest : List ℕ
  pub begun : ℕ

-- what is left of the code's line
abbrev pub left : Line → Left
left l = record { rest = l.rest.now; begun = l.words }

-- a line of which nothing was read
abbrev pub unread : List ℕ → Left
unread t = record { rest = t; begun = 0 }

-- with its next word begun
abbrev pub begin : Left → Left
begin l = record { rest = from_word l.rest; begun = one_more l.begun }

-- its next word; empty at its end
abbrev pub next_word : Left → List ℕ
next_word l = first_word (begin l).rest

-- what is left behind its next word
abbrev pub past_word : Left → Left
past_word l = record { rest = behind_word (begin l).rest; begun = (begin l).begun }

-- that something is wrong with the word that was begun last
abbrev pub fault : Left → Wrong → Fault
fault l why = record { word = l.begun; wrong = why }

-- whether a text has no byte
abbrev pub is_empty : List ℕ → Bool
is_empty t = length t == 0

-- what is read behind what was read; the first fault ends the reading
abbrev pub and_then : {A B : Type 0} → Result A Fault → (A → Result B Fault) → Result B Fault
and_then (Ok x) next = next x
and_then (Err f) next = Err f

-- the word that the code's reference shows
abbrev pub shown : Result (Bor (List ℕ)) Fault → Result (List ℕ) Fault
shown (Ok w) = Ok w.now
shown (Err f) = Err f

-- ---- words
-- the next word, which the line is to have
unfoldable pub word : Left → Result (List ℕ) Fault
word l = cond (is_empty (next_word l)) (Err (fault (past_word l) Short)) (Ok (next_word l))

-- the word `name`
unfoldable pub keyword : List ℕ → Wrong → Left → Result (Unit {0}) Fault
keyword name why l = and_then (word l) (λ w. cond (bytes_eq w name) (Ok tt) (Err (fault (past_word l) why)))

-- whether the next word is `name`
abbrev pub is_next : List ℕ → Left → Bool
is_next name l = bytes_eq (next_word l) name

-- what is left behind the word `name`, or before another
abbrev pub past_optional : List ℕ → Left → Left
past_optional name l = cond (is_next name l) (past_word l) l

-- the line's end
unfoldable pub end : Left → Result (Unit {0}) Fault
end l = cond (is_empty (begin l).rest) (Ok tt) (Err (fault (begin l) More))

-- ---- decimals
-- the value of a word as a decimal of at most so many digits, if it is below the limit
unfoldable pub below : ℕ → ℕ → List ℕ → Option ℕ
below most limit w = cond (nat_lt most (length w)) None (option_and_then (λ n. cond (nat_lt n limit) (Some n) None) (decimal w))

-- a decimal of at most so many digits, below a limit
unfoldable pub decimal_below : ℕ → ℕ → Wrong → Left → Result ℕ Fault
decimal_below most limit why l = and_then (word l) (λ w. ok_or (below most limit w) (fault (past_word l) why))

-- an index of one of so many
abbrev pub index : Indices → Left → Result ℕ Fault
index of l = decimal_below 4 of.count (Index of) l

-- a candidate's id: 16 bits
abbrev pub id : Left → Result ℕ Fault
id l = decimal_below 5 65536 Id l

-- a flag: 0 or 1
unfoldable pub flag : Left → Result Bool Fault
flag l = and_then (decimal_below 4 2 Flag l) (λ n. Ok (n == 1))

-- ---- a number
-- whether a word ends where this text begins
abbrev pub is_word_end : List ℕ → Bool
is_word_end t = is_empty t || is_blank (slice_index t 0)

-- the bits of the number that a text begins with: a word that is their sixteen hexadecimal digits
unfoldable pub number_bits : List ℕ → Option ℕ
number_bits t = cond (is_word_end (drop 16 t)) (hex16 (take 16 t)) None

-- the next number
unfoldable pub number : Left → Result Float Fault
number l = cond (is_empty (begin l).rest) (Err (fault (begin l) Short)) (ok_or (option_map (of_bits binary64) (number_bits (begin l).rest)) (fault (begin l) Number))

-- what is left behind the next number; where none is, its word is begun
unfoldable pub past_number : Left → Left
past_number l = record { rest = cond (is_some (number_bits (begin l).rest)) (drop 16 (begin l).rest) (begin l).rest; begun = (begin l).begun }

-- ---- numbers one after the other: up to so many, until a test holds or the next word is no number
-- a number and those behind it, or none
abbrev pub read_before : Result Float Fault → List Float → List Float
read_before (Ok x) xs = x ∷ xs
read_before (Err f) xs = []

-- those that are read
abbrev pub read_until : (Left → Bool) → ℕ → Left → List Float
read_until ends zero l = []
read_until ends (suc n) l = cond (ends l) [] (read_before (number l) (read_until ends n (past_number l)))

-- whether each word that was read is a number
abbrev pub checked_until : (Left → Bool) → ℕ → Left → Result (Unit {0}) Fault
checked_until ends zero l = Ok tt
checked_until ends (suc n) l = cond (ends l) (Ok tt) (and_then (number l) (λ x. checked_until ends n (past_number l)))

-- what is left behind them
abbrev pub left_until : (Left → Bool) → ℕ → Left → Left
left_until ends zero l = l
left_until ends (suc n) l = cond (ends l) l (cond (is_ok (number l)) (left_until ends n (past_number l)) (past_number l))

-- values of which the first n are those of others
abbrev pub first_of : ℕ → List Float → List Float → List Float
first_of n xs values = take n xs ++ drop n values

-- values with others in their first places, as many as there are of both
abbrev pub put_first : List Float → List Float → List Float
put_first xs values = first_of (min (length xs) (length values)) xs values

-- ---- the entries of a spectrum. Each takes a byte of the line or more, so that what ends them is never their count
-- whether a spectrum ends here: at the line's end, before a word of one letter, or before the word `outer`
unfoldable pub spectrum_ends : Left → Bool
spectrum_ends l = nat_lt (length (next_word l)) 2 || bytes_eq (next_word l) (codes "outer")

-- those that are read
unfoldable pub read_entries : Left → List Float
read_entries l = read_until spectrum_ends (length l.rest) l

-- how many of them are kept in so many places
unfoldable pub entries : ℕ → Left → Result ℕ Fault
entries places l = and_then (checked_until spectrum_ends (length l.rest) l) (λ x. Ok (min (length (read_entries l)) places))

-- what is left behind them
unfoldable pub past_entries : Left → Left
past_entries l = left_until spectrum_ends (length l.rest) l

-- the places with those that are kept
unfoldable pub with_entries : List Float → Left → List Float
with_entries values l = put_first (read_entries l) values
