-- `jobs::file::fill`: no more bytes came than there are places.
use Rattle.std.proofs.Common.{◌≤◌, length}
use Rattle.jobs.proofs.file.fill.Given as goal

abbrev pub invariant-loop : goal.invariant-loop
invariant-loop g l = l.have ≤ length l.bytes
