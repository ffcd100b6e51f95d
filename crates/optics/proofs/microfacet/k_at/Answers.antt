-- `optics::microfacet::k_at` meets its contract: a read from the grid point is the lookup (`sample_from_point`).
use Rattle.numbers.proofs.dense_spectrum.SampleFrom.{sample_from_point}
use Rattle.optics.specs.Surface.{k_from, k_at}
use Rattle.optics.proofs.microfacet.k_at.Goals as goal

pub returns : goal.returns
unfolding k_at k_from
returns c = rw (c.sample_from.ensures, c.new.ensures, c.step.ensures) (sample_from_point _ _ _)
