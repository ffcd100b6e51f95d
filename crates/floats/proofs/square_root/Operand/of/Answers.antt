-- `of` meets its contract: the operand from the value's pattern, a subnormal's digits shifted up (RootOperand).
use denote.Floats.{passes}
use Rattle.std.proofs.Common.{ℕ, ◌≡◌, ◌-◌, ◌*◌, ◌%◌, ◌^◌, subst, mod-eq_of_lt, lt_of_lt_of_le, lit≤, arith}
use lib.Ieee.{binary64, to_bits}
use Rattle.floats.specs.RootSteps.{Placed}
use Rattle.floats.proofs.square_root.RootOperand.{opened, normal_scaled, subnormal_scaled}
use Rattle.floats.proofs.square_root.Operand.of.Goals as goal

pub float_to_bits-bits : goal.float_to_bits-bits
float_to_bits-bits c = (opened c.args.x c.requires (passes _ c.well_formed.0.1)).2

pub lacking-z-requires : goal.lacking-z-requires
lacking-z-requires c =
    let u = (opened c.args.x c.requires (passes _ c.well_formed.0.1)).0 in
    let e = u.low c.if-f-eq0.true in
    let p = u.some in
    omega arith

pub returns-then-f-eq0 : goal.returns-then-f-eq0
returns-then-f-eq0 c =
    let x = c.args.x in
    let z = c.lacking-z.result in
    let t = to_bits binary64 x % 2 ^ 52 in
    let a = c.placed.result in
    let e : t * 2 ^ z % 2 ^ 64 ≡ t * 2 ^ z = mod-eq_of_lt (lt_of_lt_of_le c.lacking-z.ensures.2 (lit≤ tt)) in
    subnormal_scaled x z a.m a.h c.requires (passes _ c.well_formed.0.1) c.if-f-eq0.true c.lacking-z.ensures.0
    (subst (λ (y : ℕ). Placed y (1074 - z) a.m a.h) e c.placed.ensures)

pub overflow_add-f : goal.overflow_add-f
overflow_add-f c = omega (arith, (opened c.args.x c.requires (passes _ c.well_formed.0.1)).0.field)

pub placed-requires-else-f-eq0 : goal.placed-requires-else-f-eq0
placed-requires-else-f-eq0 c = omega (arith, (opened c.args.x c.requires (passes _ c.well_formed.0.1)).0.field)

pub returns-else-f-eq0 : goal.returns-else-f-eq0
returns-else-f-eq0 c =
    let a = c.placed-else-f-eq0.result in
    normal_scaled c.args.x a.m a.h c.requires (passes _ c.well_formed.0.1) c.if-f-eq0.false c.placed-else-f-eq0.ensures
