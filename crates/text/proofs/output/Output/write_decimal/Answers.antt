-- `write_decimal` meets its contract: what std writes in parts is put as a whole (`Put`).
use Rattle.std.specs.Prelude.{decimal}
use Rattle.text.proofs.output.Put.{all_put}
use Rattle.text.proofs.output.Output.write_decimal.Goals as goal

pub returns : goal.returns
returns c = all_put c.write.result c.args.self.now c.write.new.self (decimal c.args.value) c.write.ensures.writes
