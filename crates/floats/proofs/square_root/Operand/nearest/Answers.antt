-- `nearest` meets its contract, by `last_digit` of RootDigits.
use Rattle.std.proofs.Common.{arith}
use Rattle.floats.proofs.square_root.RootDigits.{last_digit}
use Rattle.floats.proofs.square_root.Operand.nearest.Goals as goal

pub returns : goal.returns
returns c =
    let a = c.args.self in
    let r = a.in_range in
    let s = c.digits-s in
    (last_digit a.m c.from.result s.result (omega arith) (omega arith) s.ensures c.from.ensures).1
