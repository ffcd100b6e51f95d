-- Light that leaves exactly along the wall (document 02, (v)): what q is, of every surface and bounce, and what is answered and left there. Definitions only; `AlongTheWall` is proved in proofs/AlongTheWall.antt.
use mathlib.Core.Path.{◌≡◌}
use Rattle.std.specs.Prelude.{Bool, true, false, negsuc, Some, T, Float}
use Rattle.std.specs.Float.{fin}
use Rattle.std.specs.Float.Ieee.{eq}
use Rattle.floats.specs.Float.{f0, f1, decimal}
use Rattle.numbers.specs.Onb.{basis, to_world}
use Rattle.numbers.specs.Vec3.{vec3, X, Z}
use Rattle.numbers.specs.Refusal.{accepted}
use Rattle.numbers.specs.declared.vec3.Vec3.{Vec3}
use Rattle.optics.specs.Surface.{Microsurface, microsurface, surface}
use Rattle.optics.specs.Facets.{half, g_over_g1}
use Rattle.optics.specs.Bxdf.{scattered}
use Rattle.optics.specs.Samples.{rough, w}
use Rattle.optics.specs.declared.{color.Color.Color, microfacet.Kind.TheVariants.Glass}
use Rattle.path.specs.Path.{Path, path}
use Rattle.path.specs.Bounce.{Bounce, check_bounce, lambda_on, local_wo, facet, scatter, along_wall, shadowing, one_direction, shadowing_on}
use Rattle.path.specs.Answer.{two_shares, passed, branch_of, density, shares, bounce}
use Rattle.path.specs.Samples.{all, grid, constant}
use Rattle.path.specs.Demand3.{ColorF64, Step, StepF64}

-- ---- q, for any local wi
pub record QIs (m : Microsurface) (lambda : Color) (b : Bounce) (wi : Vec3) : Type 0 where
  -- 1 on delta surfaces and on glass whose index at the leading wavelength is 1.0, along the wall too
  pub fixed : one_direction m.kind m lambda ≡ true → shadowing_on m lambda b wi ≡ f1
  -- on any other 0 along the wall
  pub wall : one_direction m.kind m lambda ≡ false → along_wall wi ≡ true → shadowing_on m lambda b wi ≡ f0
  -- and 01's quotient, of the Rust's g and g1, everywhere else
  pub elsewhere : one_direction m.kind m lambda ≡ false → along_wall wi ≡ false
      → shadowing_on m lambda b wi ≡ g_over_g1 m.roughness (local_wo b) wi (facet m lambda b)

-- ---- a bounce that isn't refused, whose light leaves along the wall of a surface where q is not fixed
-- it is reported as every other one, branch, direction, density, shares and wavelengths; but each power is 0, of either sign: a filter or a power may be -0
abbrev pub Zero : Float → Type 0
Zero x = T (eq x f0)

pub record LeavesNone (p : Path) (m : Microsurface) (b : Bounce) (wi : Vec3) (reflection : Bool) : Type 0 where
  pub power : Color
  pub none : Zero power.s0 × Zero power.s1 × Zero power.s2 × Zero power.s3
  pub reported : (let lambda = lambda_on m p.lambda in
      bounce p m b ≡ branch_of reflection (to_world (basis b.normal) wi) (density m lambda b wi reflection) (shares m lambda b) (path lambda power))

-- ---- known values
-- glass of roughness 1 and of an index at which a facet passes light exactly along the wall, in air
abbrev pub wall_index : Float
wall_index = fin false 4817472804759499 (negsuc 53)

abbrev pub wall_glass : Microsurface
wall_glass = microsurface (surface Glass f1) (constant wall_index) (constant f0) (constant f1)

-- wo (0.8, 0, 0.6), normal Z, u 0.5, disk number 0, circle pair (1, 0), filters 1
abbrev pub aslant : Bounce
aslant = record { wo = vec3 (decimal 8 10) f0 (decimal 6 10); normal = Z; backface = false; u = half; disk = f0; c = f1; s = f0; ks = all f1; tf = all f1 }

pub record WallSamples : Type 0 where
  -- at roughness 1 lumo's g over g1 has the facets open to light that leaves along X
  pub quotient : g_over_g1 rough w X Z ≡ f1
  pub shadowed : shadowing false rough w X Z ≡ f0
  -- tan² is infinite at z 2^-512, and no longer at the next double
  pub last : along_wall (vec3 f1 f0 (fin false 1 (negsuc 511))) ≡ true
  pub next : along_wall (vec3 f1 f0 (fin false 4503599627370497 (negsuc 563))) ≡ false
  -- a bounce that leaves none, to the last bit: passed to (-1.0000000000000013, 0, 0) with density 0.0191.., shares 0.334.. and 0.665..; from powers 1.0 none is left
  pub dark : bounce (path grid (all f1)) wall_glass aslant
      ≡ passed (vec3 (fin true 2251799813685251 (negsuc 50)) f0 f0) (Some (fin false 2758078086128283 (negsuc 56)))
      (Some (two_shares (fin false 6024871423971193 (negsuc 53)) (fin false 1498690885688849 (negsuc 50)))) (path grid (all f0))

pub record AlongTheWall : Type 0 where
  pub q : (m : Microsurface) (lambda : Color) (b : Bounce) (wi : Vec3) → QIs m lambda b wi
  pub bounced : (p : Path) (s : Step) (wi : Vec3) (reflection : Bool) → ColorF64 p.power → StepF64 s
      → check_bounce p s.surface s.bounce ≡ accepted
      → scatter s.surface (lambda_on s.surface p.lambda) s.bounce ≡ scattered wi reflection
      → one_direction s.surface.kind s.surface (lambda_on s.surface p.lambda) ≡ false → along_wall wi ≡ true
      → LeavesNone p s.surface s.bounce wi reflection
  pub samples : WallSamples
