-- `reflected_pdf` meets its contract: the calls give what their contracts promise, and the definition is read in the same order.
use lib.Ieee.{of_bits}
use Rattle.optics.specs.Bxdf.{rest}
use Rattle.optics.specs.Density.{reflected_pdf, mirrored_pdf}
use Rattle.optics.proofs.bxdf.dielectric.Facet.reflected_pdf.Goals as goal

pub returns : goal.returns
unfolding reflected_pdf mirrored_pdf rest of_bits
returns c = rw (c.if-self.false, ← c.args.self.cos_wo, ← c.abs.ensures)
