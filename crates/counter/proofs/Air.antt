-- Beside an outer spectrum of ones, and beside metal any, every call at the counter answers what it answers in air (`answers-in_air`): refusals, index, Fresnel terms and densities are the
-- same by the law of optics, and nothing else reads what lies outside.
use mathlib.Core.{Bool.Bool, List.List}
use lib.Ieee.{Float}
use Rattle.numbers.specs.declared.vec3.Vec3.{Vec3}
use Rattle.optics.specs.declared.{color.Color.Color, microfacet.Kind.Kind, microfacet.Surface.Surface}
use Rattle.optics.specs.Surface.{Microsurface, microsurface, surface}
use Rattle.optics.specs.Air as Optics
use Rattle.optics.specs.Air.{AirBeside, SameInAir}
use Rattle.optics.proofs.Air.{air-spectra, in_air_lem, same_index}
use Rattle.counter.specs.Counter.{make_surface, is_delta, lambda, chi_pass, g1, g, d, disney_diffuse, f_at, f, sample_normal, pdf}
use Rattle.counter.specs.Air.{SameAnswers, InAir}

taken-in_air : (m : Microsurface) → SameInAir m → SameAnswers m
unfolding is_delta lambda chi_pass g1 g d disney_diffuse f_at f sample_normal pdf
taken-in_air m h = record {
  is_delta_lem = rw h.check;
  lambda_of_lem = λ (w : Vec3). rw h.check;
  chi_pass_lem = λ (wo wh : Vec3). rw h.check;
  g1_of = λ (wo wh : Vec3). rw h.check;
  g_of = λ (wo wi wh : Vec3). rw h.check;
  d_of = λ (wh : Vec3). rw h.check;
  disney_diffuse_lem = λ (cos_wo cos_wi cos_wh : Float). rw h.check;
  f_at_lem = λ (wo wh : Vec3) (wl : Float). rw (h.check, same_index m h wl);
  f_of = λ (wo wh : Vec3) (wl : Color). rw (h.check, h.fresnel wo wh wl);
  sample_normal_lem = λ (wo : Vec3) (disk c s : Float). rw h.check;
  pdf_of_lem = λ (wo wi : Vec3) (reflection : Bool) (wl : Float). rw (h.check, h.density wo wi reflection wl);
}

pub answers-in_air : InAir
unfolding make_surface surface Optics.InAir
answers-in_air = record {
  made = λ (kind : Kind) (r : Float) (eta k outer : List Float) (beside : AirBeside kind eta outer). rw ((in_air_lem (surface kind r) eta k outer beside).spectra, air-spectra kind eta k);
  taken = λ (s : Surface) (eta k outer : List Float) (beside : AirBeside s.kind eta outer). taken-in_air (microsurface s eta k outer) (in_air_lem s eta k outer beside);
}
