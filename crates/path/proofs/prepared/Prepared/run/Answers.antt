-- `path::prepared::Prepared::run` meets its contract: the first i bounces are stored and the rest of the output is as it was.
use Rattle.std.proofs.Common.{refl, ◌∙◌, arith}
use Rattle.std.proofs.lemmas.Grind.{common_steps}
use Rattle.path.specs.Many.{all_bounced}
use Rattle.path.proofs.ManyBounces.{read, stored}
use Rattle.path.proofs.prepared.Prepared.run.Goals as goal

pub loop-i-init : goal.loop-i-init
unfolding all_bounced
loop-i-init c = refl

pub loop-i-preserved : goal.loop-i-preserved
loop-i-preserved c =
    let args = c.args in
    stored args.self.now.surface.now args.input.now args.output.now c.loop-i.output _ _ c.loop-i.i c.loop-i.invariant c.put.ensures
    (c.bounced.ensures ∙ read _ args.input.now _ _ args.n _ c.as_chunks.ensures.front (grind (arith, common_steps)) (omega arith))
