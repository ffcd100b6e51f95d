-- Air outside glass, at the counter: beside an outer spectrum of ones, and beside metal any, every call that takes a surface answers what it answers in air, where 01 has no such spectrum.
-- Definitions only; `InAir` is proved in proofs/Air.antt.
use mathlib.Core.{Path.◌≡◌, Bool.Bool, List.List}
use Rattle.std.specs.Prelude.{Float}
use Rattle.numbers.specs.declared.vec3.Vec3.{Vec3}
use Rattle.optics.specs.declared.{color.Color.Color, microfacet.Kind.Kind, microfacet.Surface.Surface}
use Rattle.optics.specs.Surface.{air, medium, Microsurface, microsurface}
use Rattle.optics.specs.Air.{AirBeside, in_air}
use Rattle.counter.specs.Counter.{make_surface, is_delta, lambda, chi_pass, g1, g, d, disney_diffuse, f_at, f, sample_normal, pdf}

pub record SameAnswers (m : Microsurface) : Type 0 where
  pub is_delta_lem : is_delta m ≡ is_delta (in_air m)
  pub lambda_of_lem : (w : Vec3) → lambda m w ≡ lambda (in_air m) w
  pub chi_pass_lem : (wo wh : Vec3) → chi_pass m wo wh ≡ chi_pass (in_air m) wo wh
  pub g1_of : (wo wh : Vec3) → g1 m wo wh ≡ g1 (in_air m) wo wh
  pub g_of : (wo wi wh : Vec3) → g m wo wi wh ≡ g (in_air m) wo wi wh
  pub d_of : (wh : Vec3) → d m wh ≡ d (in_air m) wh
  pub disney_diffuse_lem : (cos_wo cos_wi cos_wh : Float) → disney_diffuse m cos_wo cos_wi cos_wh ≡ disney_diffuse (in_air m) cos_wo cos_wi cos_wh
  pub f_at_lem : (wo wh : Vec3) (wl : Float) → f_at m wo wh wl ≡ f_at (in_air m) wo wh wl
  pub f_of : (wo wh : Vec3) (wl : Color) → f m wo wh wl ≡ f (in_air m) wo wh wl
  pub sample_normal_lem : (wo : Vec3) (disk c s : Float) → sample_normal m wo disk c s ≡ sample_normal (in_air m) wo disk c s
  pub pdf_of_lem : (wo wi : Vec3) (reflection : Bool) (wl : Float) → pdf m wo wi reflection wl ≡ pdf (in_air m) wo wi reflection wl

-- the call that makes a surface, and those that take one
pub record InAir : Type 0 where
  pub made : (kind : Kind) (r : Float) (eta k outer : List Float) → AirBeside kind eta outer
      → make_surface kind r eta k (medium outer) ≡ make_surface kind r eta k air
  pub taken : (s : Surface) (eta k outer : List Float) → AirBeside s.kind eta outer → SameAnswers (microsurface s eta k outer)
