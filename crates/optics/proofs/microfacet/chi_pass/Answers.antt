-- `optics::microfacet::chi_pass` meets its contract: from the cosine, by `chi_pass_lem`.
use Rattle.optics.proofs.SharedTerms.{chi_pass_lem}
use Rattle.optics.proofs.microfacet.chi_pass.Goals as goal

pub returns : goal.returns
returns c = rw (← chi_pass_lem, ← c.dot.ensures, ← c.chi_pass_at.ensures)
