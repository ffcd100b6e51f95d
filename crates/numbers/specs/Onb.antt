-- The orthonormal basis around a normal (Duff et al. 2017, "Building an Orthonormal Basis, Revisited"), in the order of operations of lumo's src/tracer/onb.rs. Definitions only.
use Rattle.std.specs.Prelude.{Float}
use Rattle.std.specs.Float.Ieee.{neg}
pub use Rattle.numbers.specs.declared.onb.Onb.{Onb}
use Rattle.floats.specs.Float.{◌⊕◌, ◌⊗◌, ◌⊘◌, f1, f_1, signum}
use Rattle.numbers.specs.Vec3.{Vec3, vec3, dot, add, float_mul}

-- a = -1 / (sgn + z)
unfoldable pub slope : Vec3 → Float
slope w = f_1 ⊘ (signum w.z ⊕ w.z)

-- b = x y a
unfoldable pub skew : Vec3 → Float
skew w = w.x ⊗ w.y ⊗ slope w

unfoldable pub basis : Vec3 → Onb
basis w =
    let sgn = signum w.z in
    record {
      u = vec3 (f1 ⊕ sgn ⊗ w.x ⊗ w.x ⊗ slope w) (sgn ⊗ skew w) (neg sgn ⊗ w.x);
      v = vec3 (skew w) (sgn ⊕ w.y ⊗ w.y ⊗ slope w) (neg w.y);
      w = w;
    }

-- v in the basis, and back
unfoldable pub to_local : Onb → Vec3 → Vec3
to_local uvw v = vec3 (dot v uvw.u) (dot v uvw.v) (dot v uvw.w)

unfoldable pub to_world : Onb → Vec3 → Vec3
to_world uvw v = add (add (float_mul v.x uvw.u) (float_mul v.y uvw.v)) (float_mul v.z uvw.w)
