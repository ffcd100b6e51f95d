-- `optics::check::k_entries_hold` meets its contract: the calls give what their contracts promise. The limits are tried first, since metal absorbs; the
-- definition has zero first.
use mathlib.Core.Bool.{or-true, or-false}
use Rattle.floats.specs.Float.{decimal}
use Rattle.optics.specs.Surface.{k_entries_hold, k_min}
use lib.Ieee.{of_bits}
use Rattle.optics.proofs.check.k_entries_hold.Goals as goal

pub returns-then-all_within : goal.returns-then-all_within
unfolding k_entries_hold k_min decimal of_bits
returns-then-all_within c = rw (c.in-Metal.is, ← c.all_within.ensures, c.if-all_within.true, or-true)

pub returns-else-all_within : goal.returns-else-all_within
unfolding k_entries_hold k_min decimal of_bits
returns-else-all_within c = rw (c.in-Metal.is, ← c.all_within.ensures, c.if-all_within.false, or-false, ← c.all_zero.ensures)
