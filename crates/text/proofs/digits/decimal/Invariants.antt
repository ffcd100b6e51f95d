-- What is left of the digits, read behind the value so far, is the value of all; the value so far has as many digits.
use Rattle.std.proofs.Common.{◌≡◌, ◌<◌, ◌^◌, drop}
use Rattle.text.specs.Digits.{value_behind}
use Rattle.text.proofs.digits.decimal.Given as goal

abbrev pub invariant-loop-b : goal.invariant-loop-b
invariant-loop-b l = record { fits : l.value < 10 ^ l.b-index; value : value_behind 10 l.value (drop l.b-index l.digits) ≡ value_behind 10 0 l.digits }
