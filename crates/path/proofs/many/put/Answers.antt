-- `path::many::put` meets its contract: the first j numbers are in their places.
use Rattle.std.proofs.Common.{ℕ, ◌+◌, List, get_or, set, sym, ap, ◌∙◌, add-one, arith}
use lib.Ieee.{Float, nan}
use lib.Seq.{paste, paste-suc}
use Rattle.path.proofs.many.put.Goals as goal

pub loop-j-preserved : goal.loop-j-preserved
loop-j-preserved c =
    let args = c.args in
    let j = c.loop-j.j in
    ap (λ (l : List Float). set l (args.at + j) (get_or args.numbers.now j nan)) c.loop-j.invariant
    ∙ paste-suc args.output.now args.at args.numbers.now j nan (omega arith) (omega arith)
    ∙ ap (λ (n : ℕ). paste args.output.now args.at args.numbers.now n) (sym (add-one j))
