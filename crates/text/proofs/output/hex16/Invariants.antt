-- Before the digits that are written stand those of the rest.
use Rattle.std.proofs.Common.{◌≡◌, [], length, drop}
use Rattle.text.specs.Digits.{digits_before}
use Rattle.text.proofs.output.hex16.Given as goal

abbrev pub invariant-loop-i : goal.invariant-loop-i
invariant-loop-i l = record { size : length l.digits ≡ 16; before : digits_before l.i l.rest (drop l.i l.digits) ≡ digits_before 16 l.bits [] }
