-- A book's surface: its part's bytes, its checks, and when two are equal (document 02, vi). Definitions only.
use Rattle.std.specs.Prelude.{ℕ, ◌≡◌, ◌+◌, ◌*◌, ◌==◌, Bool, true, false, ◌&&◌, cond, List, [], ◌∷◌, ◌++◌, length, take, drop, Float}
use Rattle.std.specs.Float.{nan}
use Rattle.std.specs.Float.Ieee.{eq}
use lib.Pointwise.{pointwise}
use Rattle.numbers.specs.Refusal.{Verdict, accepted, rejected, refuse, ◌then◌}
use Rattle.numbers.specs.Vec2.{splat}
use Rattle.numbers.specs.declared.vec2.Vec2.{Vec2}
use Rattle.optics.specs.declared.microfacet.{Kind.Kind, Kind.TheVariants.Metal, Kind.TheVariants.Glass}
use Rattle.optics.specs.Surface.{kind_code, kind_of, Outside, air, medium, Microsurface, raised, is_roughness_given}
use Rattle.optics.specs.Air.{all_ones}
use Rattle.optics.specs.Check.{check_surface}
use Rattle.book.specs.Bytes.{double, double_in, doubles, doubles_in}
use Rattle.book.specs.Layout.{kind_byte, step_byte, flag_byte, samples_of, step_for}

-- A surface as a book has it. The roughness as it was given stands beside the raised one.
pub record BookSurface : Type 0 where
  pub kind : Kind
  pub two_sided : Bool
  pub given : Float
  pub roughness : Vec2
  pub eta : List Float
  pub k : List Float

-- One with what lies outside it, which a book has no place for and metal doesn't read: as it is handed to a call.
pub record Offered : Type 0 where
  pub surface : BookSurface
  pub outer : List Float

-- ---- the bytes of a part
unfoldable pub flag_of : Bool → ℕ
flag_of false = 0
flag_of true = 1

unfoldable pub part_bytes : BookSurface → List ℕ
part_bytes s =
    kind_code s.kind ∷ step_for (length s.eta) ∷ flag_of s.two_sided
    ∷ double s.given ++ doubles s.eta ++ doubles s.k

-- what a surface of this roughness as given is
abbrev pub surface_given : Kind → Bool → Float → List Float → List Float → BookSurface
surface_given kind two_sided given eta k =
    record { kind = kind; two_sided = two_sided; given = given; roughness = splat (raised given); eta = eta; k = k }

-- eta from the place 11 on, then k
unfoldable pub surface_in : List ℕ → BookSurface
surface_in p =
    let n = samples_of (step_byte p) in
    surface_given (kind_of (kind_byte p)) (flag_byte p == 1) (double_in (take 8 (drop 3 p)))
    (doubles_in n (drop 11 p)) (doubles_in n (drop (11 + 8 * n) p))

-- ---- its checks, in every call that takes it
-- the roughness as given is from 0 to 1, and x and y are it raised, by value
unfoldable pub roughness_kept : BookSurface → Bool
roughness_kept s =
    is_roughness_given s.given && eq s.roughness.x (raised s.given) && eq s.roughness.y (raised s.given)

-- the surface of every call: where its roughness isn't so, it has one that no check accepts, and is refused as 1 (`RefusedOne`)
unfoldable pub surface_on : BookSurface → Outside → Microsurface
surface_on s outside = record {
  kind = s.kind;
  roughness = cond (roughness_kept s) s.roughness (splat nan);
  eta = s.eta;
  k = s.k;
  outside = outside;
}

-- a surface whose roughness isn't as it was given is 1 in every call; proved in proofs/Surfaces.antt
abbrev pub RefusedOne : Type 0
RefusedOne = (s : BookSurface) (outside : Outside) → roughness_kept s ≡ false → check_surface (surface_on s outside) ≡ rejected 1

-- as it is read: 1, 2, 3
unfoldable pub check_read : BookSurface → Verdict
check_read s = check_surface (surface_on s air)

-- as it is offered: 1, 2, 3, 13
unfoldable pub offered_on : Offered → Microsurface
offered_on o = surface_on o.surface (medium o.outer)

-- the outer spectrum of glass is 1.0 throughout
unfoldable pub air_outside : Kind → List Float → Bool
air_outside Metal outer = true
air_outside Glass outer = all_ones outer

unfoldable pub check_written : Offered → Verdict
check_written o =
    check_surface (offered_on o) then refuse 13 (air_outside o.surface.kind o.outer)

-- each in order
unfoldable pub check_all : {A : Type 0} → (A → Verdict) → List A → Verdict
check_all check [] = accepted
check_all check (x ∷ xs) = check x then check_all check xs

-- ---- when two are equal
unfoldable pub same_values : List Float → List Float → Bool
same_values xs ys = pointwise eq xs ys

-- by kind, raised roughness and spectra, numbers by value. The flag is no part of it.
unfoldable pub equal_surfaces : BookSurface → BookSurface → Bool
equal_surfaces s t =
    kind_code s.kind == kind_code t.kind && eq (raised s.given) (raised t.given)
    && same_values s.eta t.eta && same_values s.k t.k

-- of two surfaces to be written
unfoldable pub equal_for_writing : BookSurface → BookSurface → Bool
equal_for_writing s t = equal_surfaces s t

-- of two parts that are read
unfoldable pub equal_for_reading : List ℕ → List ℕ → Bool
equal_for_reading p q = equal_surfaces (surface_in p) (surface_in q)
