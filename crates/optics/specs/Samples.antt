-- Document 01's measured samples that are to be proved (marked * there), as far as they concern this crate: one conjunction (`Samples`). Beside them known values of the index of
-- glass (`IndexSamples`, 02 (iv)). Definitions only; both are proved in proofs/Samples.antt.
use Rattle.std.specs.Prelude.{negsuc, Float, replicate, ◌≡◌, false}
use Rattle.std.specs.Float.{fin, binary64}
use Rattle.std.specs.Float.Ieee.{to_bits}
use Rattle.floats.specs.Float.{f0, f1, f2, decimal}
use Rattle.floats.specs.SquareRoot.{sqrt}
use Rattle.numbers.specs.DenseSpectrum.{dense_samples}
use Rattle.numbers.specs.Vec2.{vec2}
use Rattle.numbers.specs.Vec3.{vec3, X, Z, dot}
use Rattle.numbers.specs.declared.{vec2.Vec2.Vec2, vec3.Vec3.Vec3}
use Rattle.optics.specs.Surface.{Glass, medium, index_on}
use Rattle.optics.specs.Facets.{half, lambda, g, g1, g_over_g1}
use Rattle.optics.specs.Fresnel.{fr_real, fr_complex, f_at}
use Rattle.optics.specs.Sampler.{sample_normal}

abbrev pub quarter : Float
quarter = fin false 1 (negsuc 1)

abbrev pub three_quarters : Float
three_quarters = fin false 3 (negsuc 1)

-- roughness 1, and w = (√0.75, 0, 0.5)
abbrev pub rough : Vec2
rough = vec2 f1 f1

abbrev pub w : Vec3
w = vec3 (sqrt three_quarters) f0 half

pub record Samples : Type 0 where
  -- `fr_real`, eta 3, wo = wh = Z: 0.25; eta 0.5, cosine 0.5: 1.0; eta 1, wo = wh = Z: 0.0
  pub fr_real_3 : fr_real (dot Z Z) (decimal 3 1) ≡ quarter
  pub fr_real_total : fr_real half half ≡ f1
  pub fr_real_1 : fr_real (dot Z Z) f1 ≡ f0
  -- `fr_complex`, n 1, k 2, Z, Z: 0.5
  pub fr_complex_lem : fr_complex (dot Z Z) f1 f2 ≡ half
  -- the same through `f_at`, by which k picks the formula
  pub f_at_real : f_at Z Z (decimal 3 1) f0 ≡ quarter
  pub f_at_complex : f_at Z Z f1 f2 ≡ half
  -- roughness 1, w: lambda 0.5, g(w, w, Z) 0.5, g/g1 0.75
  pub lambda_w : lambda rough w ≡ half
  pub g_w : g rough w w Z ≡ half
  pub g_over_g1_w : g_over_g1 rough w w Z ≡ three_quarters
  -- g1(Z, X) is 0
  pub g1_across : g1 rough Z X ≡ f0
  -- roughness 1, wo Z, disk 0, pair (1, 0): normal Z
  pub normal_z : sample_normal rough Z f0 f1 f0 ≡ Z

-- ---- eta 3, constant, against a constant outer spectrum
abbrev pub against : Float → Float → Float
against outer lambda = index_on Glass (replicate dense_samples (decimal 3 1)) (medium (replicate dense_samples outer)) lambda

pub record IndexSamples : Type 0 where
  -- 1.333 at 360.9 nm: eta is interpolated, and the outer spectrum gives its entry; were it interpolated too, the last digit would be 4
  pub liquid : to_bits binary64 (against (decimal 1333 1000) (decimal 3609 10)) ≡ 0x4002_0126_fc59_e0e3
  -- ones at 501 nm: the Rust's reading of eta, which rounds between grid points
  pub ones : to_bits binary64 (against f1 (decimal 501 1)) ≡ 0x4008_0000_0000_0001
  -- a wavelength that was ended
  pub ended : against (decimal 1333 1000) f0 ≡ f0
