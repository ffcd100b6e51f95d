-- `write_too_long` meets its contract: what std writes in parts is put as a whole (`Put`).
use Rattle.text.specs.Answers.{long_line}
use Rattle.text.proofs.output.Put.{all_put}
use Rattle.text.proofs.answers.write_too_long.Goals as goal

pub returns : goal.returns
returns c = all_put c.writeln.result c.args.out.now c.writeln.new.self (long_line c.args.number c.args.most) c.writeln.ensures.writes
