-- `sqrt_or_zero` meets its contract, by the three laws of RootOrZero.
use denote.Floats.{passes}
use Rattle.std.proofs.Common.{T, Float, sym, ap, ◌∙◌, subst}
use lib.Ieee.{binary64, of_bits, lt, eq}
use Rattle.floats.specs.Float.{f0}
use Rattle.floats.specs.SquareRoot.{sqrt}
use Rattle.floats.proofs.square_root.RootBits.{zero_bits, off}
use Rattle.floats.proofs.square_root.RootOrZero as root
use Rattle.floats.proofs.square_root.sqrt_or_zero.Goals as goal

pub returns-then-x : goal.returns-then-x
returns-then-x c =
    let x = c.args.x in
    c.sqrt.ensures ∙ ap sqrt (sym (root.above x (subst (λ (z : Float). T (lt z x)) zero_bits (passes (lt (of_bits binary64 0) x) c.if-x.true))))

pub returns-then-x-2 : goal.returns-then-x-2
returns-then-x-2 c =
    let x = c.args.x in
    root.at_zero x (subst (λ (z : Float). T (eq x z)) zero_bits (passes (eq x (of_bits binary64 0)) c.if-x-2.true))

pub returns-else-x-2 : goal.returns-else-x-2
returns-else-x-2 c =
    let x = c.args.x in
    zero_bits
    ∙ root.below x
    (λ (t : T (lt f0 x)). off (lt (of_bits binary64 0) x) c.if-x.false (subst (λ (z : Float). T (lt z x)) (sym zero_bits) t))
    (λ (t : T (eq x f0)). off (eq x (of_bits binary64 0)) c.if-x-2.false (subst (λ (z : Float). T (eq x z)) (sym zero_bits) t))
