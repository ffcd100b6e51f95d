-- `optics::microfacet::OpticalConstants::fresnel` meets its contract where k is not 0: it is what the call gave.
use lib.Ieee.{of_bits}
use Rattle.optics.specs.Fresnel.{fresnel}
use Rattle.optics.proofs.microfacet.OpticalConstants.fresnel.Goals as goal

pub returns : goal.returns
unfolding fresnel of_bits
returns c = rw c.if-self.false c.fr_complex.ensures
