-- What is counted of records that are replayed, and what stands for a number that is none. Definitions only.
use Rattle.std.specs.Prelude.{ℕ, Bool, true, false}
use Rattle.text.specs.declared.records.Tally.{Tally}
use Rattle.text.specs.Answers.{one_more}

-- what stands for a decimal that is none: five digits can't say it
abbrev pub no_number : ℕ
no_number = 100000

-- one record more, and whether what was replayed is the same
abbrev pub replayed : Tally → Bool → Tally
replayed t true = record { records = one_more t.records; differences = t.differences }
replayed t false = record { records = one_more t.records; differences = one_more t.differences }
