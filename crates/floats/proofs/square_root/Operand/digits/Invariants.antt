-- `digits` meets its contract: each turn of the loop is a digit of `after`, with what it needs and gives by RootDigits.
use Rattle.std.proofs.Common.{◌≡◌, ◌*◌, ◌^◌}
use Rattle.floats.specs.RootDigits.{after}
use Rattle.floats.proofs.square_root.Operand.digits.Given as goal

abbrev pub invariant-loop-i : goal.invariant-loop-i
invariant-loop-i l = l.s ≡ after 53 (l.fn.self.m * 2 ^ 52) l.i
