-- `numbers::vec3::F64SubVec3::sub` meets its contract: its operations are the definition's, one by one.
use Rattle.std.proofs.Common.{refl}
use Rattle.numbers.proofs.vec3.F64SubVec3.sub.Goals as goal

pub returns : goal.returns
returns c = refl
