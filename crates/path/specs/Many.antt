-- Many bounces on one surface, each on a path of its own: 27 numbers in, 18 out. Definitions only.
use Rattle.std.specs.Prelude.{ℕ, zero, suc, ◌*◌, ◌/◌, take, drop, pos, min, slice_index_or, Float}
use mathlib.Core.{Bool.Bool, List.List, List.[], List.◌∷◌, List.◌++◌}
use Rattle.std.specs.Float.{nan, binary64}
use Rattle.std.specs.Float.Ieee.{ne, of_int}
use Rattle.floats.specs.Float.{f0}
use Rattle.numbers.specs.Vec3.{vec3}
use Rattle.optics.specs.Color.{color}
use Rattle.optics.specs.Surface.{Microsurface}
use Rattle.path.specs.Answer.{Outcome, bounce, path_of}
use Rattle.path.specs.Bounce.{Bounce}
use Rattle.path.specs.Path.{Path, path}
use Rattle.path.specs.Plain.{BounceResult, bounce_result}

-- ---- in: the path at 0 to 7, then the bounce's other arguments
-- the number at a place of a list, and NaN past its end
abbrev pub at : List Float → ℕ → Float
at xs i = slice_index_or xs i nan

unfoldable pub path_in : List Float → Path
path_in xs = path (color (at xs 0) (at xs 1) (at xs 2) (at xs 3)) (color (at xs 4) (at xs 5) (at xs 6) (at xs 7))

-- any number but a zero stands for true
unfoldable pub is_set : Float → Bool
is_set x = ne x f0

unfoldable pub bounce_in : List Float → Bounce
bounce_in xs = record {
  wo = vec3 (at xs 8) (at xs 9) (at xs 10);
  normal = vec3 (at xs 11) (at xs 12) (at xs 13);
  backface = is_set (at xs 14);
  u = at xs 15;
  disk = at xs 16;
  c = at xs 17;
  s = at xs 18;
  ks = color (at xs 19) (at xs 20) (at xs 21) (at xs 22);
  tf = color (at xs 23) (at xs 24) (at xs 25) (at xs 26);
}

-- ---- out: the path that the answer carries, then the answer as `bounce_result` lays it out
abbrev pub double : ℕ → Float
double n = of_int binary64 (pos n)

unfoldable pub result_numbers : Path → BounceResult → List Float
result_numbers p r =
    p.lambda.s0 ∷ p.lambda.s1 ∷ p.lambda.s2 ∷ p.lambda.s3
    ∷ p.power.s0 ∷ p.power.s1 ∷ p.power.s2 ∷ p.power.s3
    ∷ double r.number ∷ double r.outcome
    ∷ r.wi.x ∷ r.wi.y ∷ r.wi.z
    ∷ double r.density.finite ∷ r.density.value
    ∷ double r.shares.given ∷ r.shares.reflected ∷ r.shares.passed ∷ []

unfoldable pub numbers_out : Outcome → List Float
numbers_out o = result_numbers (path_of o) (bounce_result o)

-- ---- one bounce, and the bounce at a place of the input
unfoldable pub bounced : Microsurface → List Float → List Float
bounced m xs = numbers_out (bounce (path_in xs) m (bounce_in xs))

unfoldable pub bounced_at : Microsurface → List Float → ℕ → List Float
bounced_at m input i = bounced m (take 27 (drop (27 * i) input))

-- the first n, one after the other
unfoldable pub all_bounced : Microsurface → List Float → ℕ → List Float
all_bounced m input zero = []
all_bounced m input (suc n) = all_bounced m input n ++ bounced_at m input n

-- as many as an input and an output of these lengths have room for
unfoldable pub count_of : ℕ → ℕ → ℕ
count_of input output = min (input / 27) (output / 18)
