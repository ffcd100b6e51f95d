-- `lacking` meets its contract, by `lacking_of` of RootOperand.
use Rattle.std.proofs.Common.{◌≤◌, ◌<◌, ◌*◌, ◌^◌, ℕ, subst, sym}
use Rattle.floats.proofs.square_root.RootOperand.{lacking_of}
use Rattle.floats.proofs.square_root.lacking.Goals as goal

pub overflow_sub-t : goal.overflow_sub-t
overflow_sub-t c = (lacking_of c.args.t c.requires.0 c.requires.1).0

pub returns : goal.returns
returns c =
    let t = c.args.t in
    let p = lacking_of t c.requires.0 c.requires.1 in
    subst (λ (z : ℕ). (z ≤ 52) × (2 ^ 52 ≤ t * 2 ^ z) × (t * 2 ^ z < 2 ^ 53)) (sym c.from.ensures) (p.1, p.2, p.3)
