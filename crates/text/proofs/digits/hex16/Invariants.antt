-- What is left of the digits, read behind the value so far, is the value of all; the value so far has as many digits.
use Rattle.std.proofs.Common.{◌≡◌, ◌<◌, ◌^◌, drop}
use Rattle.text.specs.Digits.{value_behind}
use Rattle.text.proofs.digits.hex16.Given as goal

abbrev pub invariant-loop-b : goal.invariant-loop-b
invariant-loop-b l = record { fits : l.bits < 16 ^ l.b-index; value : value_behind 16 l.bits (drop l.b-index l.digits) ≡ value_behind 16 0 l.digits }
