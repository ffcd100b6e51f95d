-- `digits` meets its contract: each turn of the loop is a digit of `after`, with what it needs and gives by RootDigits.
use Rattle.std.proofs.Common.{refl, ap, ◌∙◌, ◌*◌, ◌^◌, le_antisymm, arith}
use Rattle.floats.specs.RootDigits.{after}
use Rattle.floats.proofs.square_root.RootDigits.{ready, turn}
use Rattle.floats.proofs.square_root.Operand.digits.Goals as goal

pub loop-i-init : goal.loop-i-init
unfolding after
loop-i-init c = refl

pub digit-s-requires : goal.digit-s-requires
digit-s-requires c =
    let l = c.loop-i in
    let a = c.args.self in
    ready a.m l.i c.two_bits.result l.s l.invariant c.two_bits.ensures (omega (arith, a.in_range)) (omega arith)

pub loop-i-preserved : goal.loop-i-preserved
loop-i-preserved c =
    let l = c.loop-i in
    turn c.args.self.m l.i c.two_bits.result l.s l.invariant c.two_bits.ensures c.digit-s.result c.digit-s.ensures

pub returns : goal.returns
returns c = let l = c.loop-i in l.invariant ∙ ap (after 53 (c.args.self.m * 2 ^ 52)) (le_antisymm l.auto.i-end c.loop-i-test.false)
