-- A bounce on a book's surface, in air and refused (`book_in_air`, `roughness_refused`): ones beside glass are what path's `InAir` asks for, and a roughness that isn't as it was given is refused by the surface's checks, which come first.
use Rattle.std.proofs.Common.{ℕ, zero, suc, T, cond, List, length, replicate}
use lib.Ieee.{Float}
use Rattle.std.specs.Float.{nan}
use lib.Dec.{eqb_refl}
use lib.Ieee.{le, fits}
use Rattle.std.proofs.lemmas.List.{length-replicate}
use Rattle.floats.specs.Float.{f1, within}
use Rattle.numbers.specs.Vec2.{splat}
use Rattle.numbers.specs.DenseSpectrum.{one_spacing, every, all_within}
use Rattle.optics.specs.declared.microfacet.{Kind.Kind, Kind.TheVariants.Metal, Kind.TheVariants.Glass}
use Rattle.optics.specs.F64.{AllF64}
use Rattle.optics.specs.Surface.{medium}
use Rattle.optics.specs.Air.{all_ones, AirBeside}
use Rattle.path.specs.Bounce.{check_bounce}
use Rattle.path.specs.Answer.{bounce, answered}
use Rattle.path.specs.Air.{InAir}
use Rattle.path.proofs.Air.{bounce-in_air}
use Rattle.book.specs.Surfaces.{roughness_kept, surface_on, offered_on}
use Rattle.book.proofs.Surfaces.{refused_one}
use Rattle.book_path.specs.BookBounce.{faced, bounce_on_book}
use Rattle.book_path.specs.Air.{BookInAir, RoughnessRefused}

-- ---- a spectrum of ones
ones_fit : (n : ℕ) → AllF64 (replicate n f1)
unfolding AllF64 fits
ones_fit zero = tt
ones_fit (suc n) = (tt, ones_fit n)

ones_are_ones : (n : ℕ) → T (all_ones (replicate n f1))
unfolding all_ones all_within every within le
ones_are_ones zero = tt
ones_are_ones (suc n) = ones_are_ones n

ones_beside : (kind : Kind) (eta : List Float) → AllF64 eta → AirBeside kind eta (replicate (length eta) f1)
unfolding AirBeside one_spacing
ones_beside Metal eta f = tt
ones_beside Glass eta f = record {
  eta_f64 = f;
  outer_f64 = ones_fit (length eta);
  spacing = rw length-replicate (eqb_refl (length eta));
  ones = ones_are_ones (length eta);
}

-- ---- in air
pub book_in_air : BookInAir
unfolding BookInAir bounce_on_book offered_on surface_on InAir
book_in_air s f p b =
    let roughness = cond (roughness_kept s) s.roughness (splat nan) in
    (bounce-in_air (record { kind = s.kind; roughness = roughness }) s.eta s.k _ (ones_beside s.kind s.eta f)).answer p (faced s b)

-- ---- refused
pub roughness_refused : RoughnessRefused
unfolding RoughnessRefused bounce_on_book offered_on bounce check_bounce answered
roughness_refused o h p b = rw (refused_one o.surface (medium o.outer) h)
