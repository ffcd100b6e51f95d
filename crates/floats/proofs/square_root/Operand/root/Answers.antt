-- `root` meets its contract, by `nearest-pattern` of RootBits.
use Rattle.std.proofs.Common.{◌+◌, ◌-◌, ◌*◌, ◌^◌, arith}
use Rattle.floats.proofs.square_root.RootBits.{within, clean, nearest-pattern}
use Rattle.floats.proofs.square_root.RootOperand.{root_scaled}
use Rattle.floats.proofs.square_root.Operand.root.Goals as goal

pub float_from_bits-result : goal.float_from_bits-result
float_from_bits-result c =
    let a = c.args.self in
    let q = c.nearest.result in
    let r = a.in_range in
    clean ((a.h - 26) * 2 ^ 52 + q) (omega (arith, (within q a.m c.nearest.ensures r.0 r.1).1))

pub returns : goal.returns
returns c =
    let a = c.args.self in
    let r = a.in_range in
    root_scaled a.m a.h _ (nearest-pattern c.nearest.result a.m a.h c.nearest.ensures r.0 r.1 r.2 r.3)
