-- `optics::microfacet::metal_constants_at` meets its contract: a read from the grid point is the lookup (`sample_from_point`).
use Rattle.numbers.proofs.dense_spectrum.SampleFrom.{sample_from_point}
use Rattle.optics.specs.Surface.{eta_from, k_from}
use Rattle.optics.proofs.microfacet.metal_constants_at.Goals as goal

pub returns : goal.returns
unfolding eta_from k_from
returns c = (
  rw (← c.spectra.view_is, c.sample_from.ensures, c.new-point.ensures) (sample_from_point _ _ _),
  rw (← c.spectra.view_is, c.sample_from-2.ensures, c.new-point.ensures) (sample_from_point _ _ _),
)
