-- `make_book::surfaces::Surfaces::in_order`: no more surfaces stand at the front than were looked for.
use Rattle.std.proofs.Common.{◌≤◌}
use Rattle.make_book.proofs.surfaces.Surfaces.in_order.Given as goal

abbrev pub invariant-loop-i : goal.invariant-loop-i
invariant-loop-i g l = l.count ≤ l.i
