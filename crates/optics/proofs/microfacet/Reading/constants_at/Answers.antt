-- `optics::microfacet::Reading::constants_at` meets its contract: a read from the grid point is the lookup (`sample_from_point`).
use Rattle.std.proofs.Common.{refl}
use Rattle.numbers.proofs.dense_spectrum.SampleFrom.{sample_from_point}
use Rattle.optics.specs.Surface.{eta_from, k_from}
use Rattle.optics.specs.SharedTerms.{outer_from, quotient_from}
use Rattle.optics.proofs.microfacet.Reading.constants_at.Goals as goal

pub returns : goal.returns
unfolding quotient_from eta_from outer_from k_from
returns c =
    let point = c.new-point.ensures in (
      rw (← c.spectra.view_is, c.quotient.ensures, c.outer_at-outer.ensures, c.sample_from-inner.ensures, point, sample_from_point _ _ _, sample_from_point _ _ _) refl,
      rw (← c.spectra.view_is, c.sample_from-k.ensures, point) (sample_from_point _ _ _),
    )
