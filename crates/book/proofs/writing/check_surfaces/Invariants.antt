-- The checks of what is left decide.
use Rattle.std.proofs.Common.{◌≡◌, map, drop}
use Rattle.book.specs.Surfaces.{check_written, check_all}
use Rattle.book.specs.Record.{offered}
use Rattle.book.proofs.writing.check_surfaces.Given as goal

abbrev pub invariant-loop-surface : goal.invariant-loop-surface
invariant-loop-surface l = check_all check_written (map offered (drop l.surface-index l.surfaces)) ≡ check_all check_written (map offered l.surfaces)
