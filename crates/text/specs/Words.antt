-- Where the words of a line begin and end: blanks stand between them, and a `#` where a word would begin ends the line. Definitions only.
use Rattle.std.specs.Prelude.{ℕ, Bool, List, [], cond, not, ◌||◌, ◌==◌, drop, slice_index}
use Rattle.std.specs.List.{position_or_len, before_first}

-- whether a byte is a blank: a space, a tab or a carriage return
abbrev pub is_blank : ℕ → Bool
is_blank b = (b == 32 || b == 9) || b == 13

-- what is left of a text from its first byte that is no blank; nothing where all are
abbrev pub past_blanks : List ℕ → List ℕ
past_blanks t = drop (position_or_len (λ b. not (is_blank b)) t) t

-- a text, or nothing where it begins with `#`
abbrev pub unless_comment : List ℕ → List ℕ
unless_comment t = cond (slice_index t 0 == 35) [] t

-- what is left of a text from where its next word begins; nothing where none does
unfoldable pub from_word : List ℕ → List ℕ
from_word t = unless_comment (past_blanks t)

-- the word that a text begins with: up to its first blank
abbrev pub first_word : List ℕ → List ℕ
first_word t = before_first is_blank t

-- what is left of a text behind that word
abbrev pub behind_word : List ℕ → List ℕ
behind_word t = drop (position_or_len is_blank t) t
