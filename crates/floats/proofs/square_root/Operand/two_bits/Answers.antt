-- `two_bits` meets its contract, by `two_high` and `two_low` of RootDigits.
use Rattle.std.proofs.Common.{arith}
use Rattle.floats.proofs.square_root.RootDigits.{two_high, two_low}
use Rattle.floats.proofs.square_root.Operand.two_bits.Goals as goal

pub returns-then-i-lt27 : goal.returns-then-i-lt27
returns-then-i-lt27 c = two_high c.args.self.m c.args.i (omega arith)

pub returns-else-i-lt27 : goal.returns-else-i-lt27
returns-else-i-lt27 c = two_low c.args.self.m c.args.i (omega arith) (omega arith)
