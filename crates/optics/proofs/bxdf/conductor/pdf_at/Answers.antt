-- `optics::bxdf::conductor::pdf_at` meets its contract: the calls give what their contracts promise, and the definition is read in the same order.
use lib.Ieee.{of_bits}
use Rattle.optics.specs.Density.{conductor_pdf_from, mirrored_pdf}
use Rattle.optics.proofs.bxdf.conductor.pdf_at.Goals as goal

pub returns-then-same_hemisphere : goal.returns-then-same_hemisphere
unfolding conductor_pdf_from mirrored_pdf of_bits
returns-then-same_hemisphere c =
    rw (← c.same_hemisphere.ensures, c.if-same_hemisphere.true, ← c.is_mirror.ensures, c.if-is_mirror.false, ← c.dot-wh_dot_wo.ensures, ← c.sample_normal_pdf.ensures, ← c.abs.ensures)
