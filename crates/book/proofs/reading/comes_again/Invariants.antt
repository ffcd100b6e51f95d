-- What is left of the parts decides.
use Rattle.std.proofs.Common.{◌≡◌, ◌+◌}
use Rattle.std.specs.List.{list_any}
use Rattle.book.specs.Layout.{part_at}
use Rattle.book.specs.Surfaces.{equal_for_reading}
use Rattle.book.proofs.reading.Rest.{rest}
use Rattle.book.proofs.reading.comes_again.Given as goal

abbrev pub invariant-loop-j : goal.invariant-loop-j
invariant-loop-j l =
    list_any (λ q. equal_for_reading q (part_at l.b l.i)) (rest l.b l.j)
    ≡ list_any (λ q. equal_for_reading q (part_at l.b l.i)) (rest l.b (l.i + 1))
