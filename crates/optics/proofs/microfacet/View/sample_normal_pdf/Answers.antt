-- `optics::microfacet::View::sample_normal_pdf` meets its contract: each call gives what the definition has at its place, the first of them first.
use Rattle.std.proofs.Common.{refl}
use lib.Ieee.{of_bits}
use Rattle.numbers.specs.SphericalUtils.{cos_theta}
use Rattle.optics.specs.SharedTerms.{sample_normal_pdf_at}
use Rattle.optics.proofs.microfacet.View.sample_normal_pdf.Goals as goal

pub returns : goal.returns
unfolding sample_normal_pdf_at cos_theta of_bits
returns c = rw (c.max.ensures, c.abs.ensures, c.abs-2.ensures, c.d-d.ensures, c.g1-g1.ensures) refl
