-- What is left of the parts decides.
use Rattle.std.proofs.Common.{◌≡◌}
use Rattle.book.specs.Layout.{parts, none_equal}
use Rattle.book.specs.Surfaces.{equal_for_reading}
use Rattle.book.proofs.reading.Rest.{rest}
use Rattle.book.proofs.reading.none_equal.Given as goal

abbrev pub invariant-loop-i : goal.invariant-loop-i
invariant-loop-i l = none_equal equal_for_reading (rest l.b l.i) ≡ none_equal equal_for_reading (parts l.b)
