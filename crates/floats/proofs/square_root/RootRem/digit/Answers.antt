-- `digit` meets its contract, by `bit-digit` of RootDigits.
use Rattle.floats.proofs.square_root.RootDigits.{bit-digit}
use Rattle.floats.proofs.square_root.RootRem.digit.Goals as goal

pub returns : goal.returns
returns c = let a = c.args in bit-digit a.self.root a.self.rem a.two c.from-c.result c.from-c.ensures
