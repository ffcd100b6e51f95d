-- Document 01's measured samples that are to be proved (marked * there): those of whole bounces, and with those of the crates below ONE conjunction (`AllSamples`).
-- Definitions only; it is proved in proofs/Samples.antt. The bounces are at wavelengths of the grid, where a constant spectrum reads as its entry.
use mathlib.Core.{Path.◌≡◌, Bool.false, List.List, List.[]}
use Rattle.std.specs.Prelude.{replicate, pos, Some, None, Float}
use Rattle.std.specs.Float.{fin}
use Rattle.floats.specs.Float.{f0, f1, f2, f_1, decimal}
use Rattle.numbers.specs.Vec3.{vec3, Z}
use Rattle.numbers.specs.DenseSpectrum.{dense_samples}
use Rattle.numbers.specs.Samples as Numbers
use Rattle.optics.specs.Color.{color}
use Rattle.optics.specs.Surface.{Microsurface, microsurface, surface}
use Rattle.optics.specs.Facets.{half}
use Rattle.optics.specs.Samples as Optics
use Rattle.optics.specs.Samples.{quarter, three_quarters}
use Rattle.optics.specs.declared.{color.Color.Color, microfacet.Kind.TheVariants.Metal, microfacet.Kind.TheVariants.Glass}
use Rattle.path.specs.Bounce.{Bounce}
use Rattle.path.specs.Path.{path}
use Rattle.path.specs.Answer.{two_shares, bounce, reflected, passed}

abbrev pub all : Float → Color
all x = color x x x x

-- wavelengths of the grid: 400, 500, 600, 700
abbrev pub grid : Color
grid = color (fin false 25 (pos 4)) (fin false 125 (pos 2)) (fin false 75 (pos 3)) (fin false 175 (pos 2))

abbrev pub constant : Float → List Float
constant x = replicate dense_samples x

-- a surface made from roughness 0, which is raised to 1e-5, so delta: metal of n 1, k 2, and glass of eta 3 in air
abbrev pub delta_metal : Microsurface
delta_metal = microsurface (surface Metal f0) (constant f1) (constant f2) []

abbrev pub delta_glass : Microsurface
delta_glass = microsurface (surface Glass f0) (constant (fin false 3 (pos 0))) (constant f0) (constant f1)

-- wo = normal = Z, filters 1, the number u; disk number 0 and circle pair (1, 0), which a delta surface does not read
abbrev pub along : Float → Bounce
along u = record { wo = Z; normal = Z; backface = false; u = u; disk = f0; c = f1; s = f0; ks = all f1; tf = all f1 }

pub record Samples : Type 0 where
  -- delta metal, n 1, k 2, ks 1, wo = normal = Z: reflected to Z, powers 0.5, density 1.0; again: 0.25
  pub metal_once : bounce (path grid (all f1)) delta_metal (along f0) ≡ reflected Z (Some f1) None (path grid (all half))
  pub metal_again : bounce (path grid (all half)) delta_metal (along f0) ≡ reflected Z (Some f1) None (path grid (all quarter))
  -- delta glass, eta 3, wo = normal = Z: u 0.2 reflects, density 0.25; u 0.25 passes to (0, 0, -1), density 0.75; shares 0.25 and 0.75
  pub glass_reflects : bounce (path grid (all f1)) delta_glass (along (decimal 2 10)) ≡ reflected Z (Some quarter) (Some (two_shares quarter three_quarters)) (path grid (all f1))
  pub glass_passes : bounce (path grid (all f1)) delta_glass (along quarter) ≡ passed (vec3 f0 f0 f_1) (Some three_quarters) (Some (two_shares quarter three_quarters)) (path grid (all f1))

-- the starred samples of document 01, all of them
abbrev pub AllSamples : Type 0
AllSamples = Numbers.Samples × Optics.Samples × Samples
