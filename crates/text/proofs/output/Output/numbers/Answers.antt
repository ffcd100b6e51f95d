-- `numbers` meets its contract: each number is put behind those before it (`Put`).
use Rattle.std.proofs.Common.{◌∙◌}
use Rattle.text.proofs.output.Put.{one_more}
use Rattle.text.proofs.output.Output.numbers.Goals as goal

pub loop-x-preserved : goal.loop-x-preserved
loop-x-preserved c = rw c.number.ensures (one_more c.loop-x.self c.args.values.now c.loop-x.x-index _ c.loop-x-test.true ∙ c.loop-x.invariant)
