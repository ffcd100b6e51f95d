-- `path::prepared::Prepared::run` meets its contract: the first i bounces are stored and the rest of the output is as it was.
use Rattle.std.proofs.Common.{◌≡◌, ◌*◌, ◌++◌, drop}
use Rattle.path.specs.Many.{all_bounced}
use Rattle.path.proofs.prepared.Prepared.run.Given as goal

abbrev pub invariant-loop-i : goal.invariant-loop-i
invariant-loop-i l =
    l.output ≡ all_bounced l.self.surface.now l.input l.i ++ drop (18 * l.i) l.initial.output
