-- `equality::same_spectra` meets its contract where eta is equal: by hand, so that another pair of spectra shows two sides.
use Rattle.std.proofs.Common.{◌≡◌, true, refl}
use Rattle.book.specs.Surfaces.{same_values}
use Rattle.book.specs.Record.{surface_of}
use Rattle.book.proofs.equality.same_spectra.Goals as goal

pub returns-then-eq : goal.returns-then-eq
unfolding same_values
returns-then-eq c =
    let eta : same_values (surface_of c.args.r.now).eta (surface_of c.args.s.now).eta ≡ true =
    rw (← c.eta.ensures, ← c.eta-2.ensures, ← c.eq.ensures) c.if-eq.true in
    rw (eta, c.eq-then-eq.ensures, c.k.ensures, c.k-then-eq.ensures) refl
