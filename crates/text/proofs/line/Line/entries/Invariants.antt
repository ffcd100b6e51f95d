-- One entry was read at each turn, which took a byte of the line or more, and those for which there are places are kept.
use Rattle.std.proofs.Common.{◌≡◌, ◌+◌, ◌≤◌, length, min}
use Rattle.text.specs.Line.{left, spectrum_ends, read_until, first_of}
use Rattle.text.proofs.line.Readings.{Read}
use Rattle.text.proofs.line.Line.entries.Given as goal

abbrev pub invariant-loop : goal.invariant-loop
invariant-loop l = record {
  so_far : Read spectrum_ends (length l.initial.self.rest.now) (left l.initial.self) l.counter (left l.self);
  bytes : length l.self.rest.now + l.counter ≤ length l.initial.self.rest.now;
  counted : l.count ≡ min l.counter (length l.initial.values);
  kept : l.values ≡ first_of l.count (read_until spectrum_ends (length l.initial.self.rest.now) (left l.initial.self)) l.initial.values;
}
