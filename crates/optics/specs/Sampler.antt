-- The sampled normal: a normal from those that wo sees (Heitz 2018, "Sampling the GGX Distribution of Visible Normals"), in the order of operations of lumo's src/tracer/microfacet.rs. Definitions only.
-- Stand-in two of document 01: (c, s) is the cosine and the sine of the disk's angle, and `disk` the disk number, the square of its radius.
use Rattle.std.specs.Prelude.{cond, Float}
use Rattle.std.specs.Float.Ieee.{lt}
use Rattle.floats.specs.Float.{◌⊕◌, ◌⊖◌, ◌⊗◌, ◌⊘◌, f0, f1, f2, epsilon, max}
use Rattle.floats.specs.SquareRoot.{sqrt}
use Rattle.numbers.specs.Vec3.{vec3, X, Z, add, float_mul, negate, cross, normalize}
use Rattle.numbers.specs.declared.{vec2.Vec2.Vec2, vec3.Vec3.Vec3}

-- ---- wo in the hemisphere's configuration, on Z's side
unfoldable pub stretched : Vec2 → Vec3 → Vec3
stretched a wo = normalize (vec3 (wo.x ⊗ a.x) (wo.y ⊗ a.y) wo.z)

unfoldable pub upright : Vec3 → Vec3
upright v = cond (lt v.z f0) (negate v) v

unfoldable pub viewed : Vec2 → Vec3 → Vec3
viewed a wo = upright (stretched a wo)

-- a tangent, perpendicular to Z
unfoldable pub tangent : Vec3 → Vec3
tangent v = cond (lt (f1 ⊖ v.z) epsilon) X (normalize (cross v Z))

-- ---- a point of the disk, moved to its projection
unfoldable pub lerp : Vec3 → Float
lerp v = (f1 ⊕ v.z) ⊘ f2

unfoldable pub disk_x : Float → Float → Float
disk_x r c = r ⊗ c

unfoldable pub disk_h : Float → Float
disk_h x = sqrt (max (f1 ⊖ x ⊗ x) f0)

unfoldable pub disk_y : Vec3 → Float → Float → Float → Float
disk_y v r x s = (f1 ⊖ lerp v) ⊗ disk_h x ⊕ lerp v ⊗ r ⊗ s

unfoldable pub disk_z : Float → Float → Float
disk_z x y = sqrt (max (f1 ⊖ x ⊗ x ⊖ y ⊗ y) f0)

-- the point (x, y, z) on the hemisphere over the disk, r being the radius
unfoldable pub on_hemisphere : Vec3 → Float → Float → Float → Vec3
on_hemisphere v r c s =
    let x = disk_x r c in
    let y = disk_y v r x s in
    vec3 x y (disk_z x y)

-- ---- the point p in the basis of the tangents t and t × v and of v, and back to the ellipsoid
unfoldable pub combined : Vec3 → Vec3 → Vec3 → Vec3
combined t v p =
    add (add (float_mul p.x t) (float_mul p.y (cross t v))) (float_mul p.z v)

unfoldable pub unstretched : Vec2 → Vec3 → Vec3
unstretched a m = normalize (vec3 (a.x ⊗ m.x) (a.y ⊗ m.y) (max m.z epsilon))

unfoldable pub sample_normal : Vec2 → Vec3 → Float → Float → Float → Vec3
sample_normal a wo disk c s =
    let v = viewed a wo in
    unstretched a (combined (tangent v) v (on_hemisphere v (sqrt disk) c s))
