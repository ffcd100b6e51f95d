-- `write_fault` meets its contract: what std writes in parts is put as a whole (`Put`).
use Rattle.text.specs.Answers.{fault_line}
use Rattle.text.proofs.output.Put.{all_put}
use Rattle.text.proofs.answers.write_fault.Goals as goal

pub returns : goal.returns
returns c = all_put c.writeln.result c.args.out.now c.writeln.new.self (fault_line c.args.fault) c.writeln.ensures.writes
