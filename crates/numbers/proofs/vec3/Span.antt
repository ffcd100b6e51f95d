-- Vectors whose parts are finite and at most k in size, `Span k v`: a wider bound holds too (`widen3`), and of the negative (`negate_span`), part by part.
use Rattle.std.proofs.Common.{ℕ, ◌≤◌}
use Rattle.floats.proofs.Rounding.Sizes.{Upto, widen, neg_upto}
use Rattle.numbers.specs.Vec3.{Vec3, negate}

pub record Span (k : ℕ) (v : Vec3) : Type 0 where
  pub x : Upto k v.x
  pub y : Upto k v.y
  pub z : Upto k v.z

pub widen3 : (k l : ℕ) (v : Vec3) → k ≤ l → Span k v → Span l v
widen3 k l v h s = record { x = widen k l v.x h s.x; y = widen k l v.y h s.y; z = widen k l v.z h s.z }

pub negate_span : (k : ℕ) (v : Vec3) → Span k v → Span k (negate v)
unfolding negate
negate_span k v h = record { x = neg_upto k v.x h.x; y = neg_upto k v.y h.y; z = neg_upto k v.z h.z }
