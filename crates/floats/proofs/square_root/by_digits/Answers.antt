-- `by_digits` meets its contract: by `root` of the operand, and by RootBits where a value has no digits to compute.
use Rattle.std.proofs.Common.{sym, ◌∙◌, true≢false}
use Rattle.floats.proofs.square_root.RootBits.{negative_case, positive_case, own_case}
use Rattle.floats.proofs.square_root.by_digits.Goals.{else-x-2-via-then-x-2+else-is_finite, else-x-2-via-else-x-2}
use Rattle.floats.proofs.square_root.by_digits.Goals as goal

pub returns-then-x : goal.returns-then-x
returns-then-x c = negative_case c.args.x c.if-x.true

pub of-requires : goal.of-requires
of-requires c = positive_case c.args.x c.if-x-2.true (sym c.is_finite.ensures.value ∙ c.if-is_finite.true)

pub returns-else-x-2 : goal.returns-else-x-2
returns-else-x-2 c =
    own_case c.args.x c.if-x.false
    (elim c.else-x-2.branch [
      | else-x-2-via-then-x-2+else-is_finite w ↦ λ e. sym w.is_finite.ensures.value ∙ w.if-is_finite.false
      | else-x-2-via-else-x-2 w ↦ λ e. absurd (true≢false (sym e ∙ w.if-x-2.false))
    ])
