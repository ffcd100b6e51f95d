-- The Fresnel term, exact (Walter et al. 2007, eq. 22; PBR book 8.2), in the order of operations of lumo's src/tracer/microfacet.rs. Definitions only.
-- cosO is wo · wh; eta and k are the index and the absorption at one wavelength.
use Rattle.std.specs.Prelude.{Float, Bool, cond, List}
use Rattle.std.specs.Float.Ieee.{lt, le, eq}
use Rattle.floats.specs.Float.{◌⊕◌, ◌⊖◌, ◌⊗◌, ◌⊘◌, f0, f1, f2, max, abs, clamp}
use Rattle.floats.specs.SquareRoot.{sqrt}
use Rattle.numbers.specs.Vec3.{dot}
use Rattle.numbers.specs.Complex.{complex, mul, mul_float, float_div, float_sub, float_add, sub, add, div, norm_sqr}
use Rattle.numbers.specs.Complex as C
use Rattle.numbers.specs.declared.{complex.Complex.Complex, vec3.Vec3.Vec3}
use Rattle.optics.specs.Color.{Color, each}
use Rattle.optics.specs.Surface.{Kind, Outside, k_at, index_on}

-- ---- Snell's law, sin θo = η sin θi
-- the index against wo's side: from below, light leaves the glass
unfoldable pub index_from : Float → Float → Float
index_from cos_o eta = cond (lt cos_o f0) (f1 ⊘ eta) eta

-- sin² θi from cos θo
unfoldable pub sin2_i : Float → Float → Float
sin2_i cos_o eta = (f1 ⊖ cos_o ⊗ cos_o) ⊘ (eta ⊗ eta)

unfoldable pub is_total : Float → Bool
is_total sin2 = le f1 sin2

-- cos θi from sin² θi
unfoldable pub cos_i : Float → Float
cos_i sin2 = sqrt (max (f1 ⊖ sin2) f0)

-- ---- a real index: the mean of the squares of r∥ = (η cos θo - cos θi) / (η cos θo + cos θi) and r⊥ = (cos θo - η cos θi) / (cos θo + η cos θi)
-- (a - b) / (a + b)
unfoldable pub contrast : Float → Float → Float
contrast a b = (a ⊖ b) ⊘ (a ⊕ b)

unfoldable pub mean_square : Float → Float → Float
mean_square a b = (a ⊗ a ⊕ b ⊗ b) ⊘ f2

unfoldable pub unpolarized : Float → Float → Float → Float
unpolarized eta cos_o cos_i = mean_square (contrast (eta ⊗ cos_o) cos_i) (contrast cos_o (eta ⊗ cos_i))

-- at a cosine that isn't below 0, against the index on its side; 1 at total reflection
unfoldable pub fr_facing : Float → Float → Float
fr_facing cos_o eta =
    cond (is_total (sin2_i cos_o eta)) f1
    (unpolarized eta cos_o (cos_i (sin2_i cos_o eta)))

unfoldable pub fr_real : Float → Float → Float
fr_real cos_o eta = fr_facing (abs cos_o) (index_from cos_o eta)

-- ---- a complex index η + ik: the same, over the complex numbers
unfoldable pub complex_cos_i : Float → Complex → Complex
complex_cos_i cos_o eta = C.sqrt (float_sub f1 (float_div (f1 ⊖ cos_o ⊗ cos_o) (mul eta eta)))

unfoldable pub r_par : Float → Complex → Complex → Complex
r_par cos_o eta cos_i = div (sub (mul_float eta cos_o) cos_i) (add (mul_float eta cos_o) cos_i)

unfoldable pub r_per : Float → Complex → Complex → Complex
r_per cos_o eta cos_i = div (float_sub cos_o (mul eta cos_i)) (float_add cos_o (mul eta cos_i))

unfoldable pub fr_complex_facing : Float → Complex → Float
fr_complex_facing cos_o eta =
    let cos_i = complex_cos_i cos_o eta in
    (norm_sqr (r_par cos_o eta cos_i) ⊕ norm_sqr (r_per cos_o eta cos_i)) ⊘ f2

unfoldable pub fr_complex : Float → Float → Float → Float
fr_complex cos_o eta k = fr_complex_facing (clamp f0 f1 cos_o) (complex eta k)

-- ---- at one wavelength, whose index is 0 if the wavelength was ended; and at four
unfoldable pub fresnel : Float → Float → Float → Float
fresnel cos_o eta k = cond (eq k f0) (cond (eq eta f0) f0 (fr_real cos_o eta)) (fr_complex cos_o eta k)

unfoldable pub f_at : Vec3 → Vec3 → Float → Float → Float
f_at wo wh eta k = fresnel (dot wo wh) eta k

unfoldable pub f : Kind → List Float → List Float → Outside → Vec3 → Vec3 → Color → Color
f kind eta k outside wo wh lambda = each (λ wl. f_at wo wh (index_on kind eta outside wl) (k_at eta k wl)) lambda
