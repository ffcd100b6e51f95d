-- What is wrong with a line, in words. Definitions only.
use Rattle.std.specs.Prelude.{ℕ, ◌-◌, List, ◌++◌, codes, decimal}
use Rattle.text.specs.declared.faults.Fault.{Fault}
use Rattle.text.specs.declared.faults.Indices.{Indices}
use Rattle.text.specs.declared.faults.Wrong.{Wrong}
use Rattle.text.specs.declared.faults.Wrong.TheVariants.{Command, Index, Id, Kind, Flag, Number, Eta, K, Short, More, NoSurface, NoPath, NoFile, NoPlace}

-- which indices there are
abbrev pub indices_text : Indices → List ℕ
indices_text of = of.whose.now ++ (codes " index is from 0 to " ++ decimal (of.count - 1))

-- what is wrong with a word
abbrev pub wrong_text : Wrong → List ℕ
wrong_text Command = codes "unknown command"
wrong_text (Index of) = indices_text of
wrong_text Id = codes "an id is from 0 to 65535"
wrong_text Kind = codes "a kind is metal or glass"
wrong_text Flag = codes "a flag is 0 or 1"
wrong_text Number = codes "a number is the 16 hexadecimal digits of its bits; a decimal is turned into them by rays-csv to-job"
wrong_text Eta = codes "the word eta is missing"
wrong_text K = codes "the word k is missing"
wrong_text Short = codes "the line ends too soon"
wrong_text More = codes "the line goes on"
wrong_text NoSurface = codes "the surface is not made"
wrong_text NoPath = codes "the path is not started"
wrong_text NoFile = codes "the file cannot be read"
wrong_text NoPlace = codes "the book's surfaces go past the last place"

-- what is wrong, behind the word's number
abbrev pub fault_text : Fault → List ℕ
fault_text f = codes "error word " ++ (decimal f.word ++ (codes ": " ++ wrong_text f.wrong))
