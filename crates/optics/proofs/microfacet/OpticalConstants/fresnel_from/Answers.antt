-- `optics::microfacet::OpticalConstants::fresnel_from` meets its contract where k is not 0: it is what the call gave.
use lib.Ieee.{of_bits}
use Rattle.optics.specs.SharedTerms.{fresnel_from}
use Rattle.optics.proofs.microfacet.OpticalConstants.fresnel_from.Goals as goal

pub returns : goal.returns
unfolding fresnel_from of_bits
returns c = rw c.if-self.false c.fr_complex.ensures
