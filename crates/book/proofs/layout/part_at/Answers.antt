-- `part_at` meets its contract: in a book each pair and each part lies within (`part_within`).
use Rattle.std.proofs.Common.{◌≡◌, ◌+◌, ◌-◌, take, drop, refl, ap, ◌∙◌, arith}
use Rattle.std.proofs.Math.Nat.{add-sub_cancel_left}
use Rattle.book.specs.Layout.{part_at, is_part}
use Rattle.book.proofs.layout.PairByPair.{part_within}
use Rattle.book.proofs.layout.part_at.Goals as goal

pub slice_bounds-result-end : goal.slice_bounds-result-end
slice_bounds-result-end c = omega (arith, part_within c.args.b.now c.args.i c.requires.0 c.requires.1)

pub returns : goal.returns
unfolding part_at
returns c =
    let b = c.args.b.now in
    let from = c.offset_at-from.result in
    let is : take (from + c.length_at.result - from) (drop from b) ≡ part_at b c.args.i =
    rw (add-sub_cancel_left, c.offset_at-from.ensures.0, c.length_at.ensures.0) refl in
    (is, ap is_part is ∙ (part_within b c.args.i c.requires.0 c.requires.1).part)
