-- No ground of refusal has the number 0, which says that a call is accepted (`number_positive`). By the case of the ground.
use Rattle.std.proofs.Common.{◌<◌, arith}
use Rattle.numbers.specs.Refusal.{Refusal, number}
use Rattle.numbers.specs.declared.refusal.Refusal.TheVariants as W

pub number_positive : (why : Refusal) → 0 < number why
unfolding number
number_positive W.Roughness = omega arith
number_positive W.Eta = omega arith
number_positive W.K = omega arith
number_positive W.Wavelength = omega arith
number_positive W.Direction = omega arith
number_positive W.RandomNumber = omega arith
number_positive W.CirclePair = omega arith
number_positive W.Filter = omega arith
number_positive W.NotFinite = omega arith
number_positive W.Power = omega arith
number_positive W.Full = omega arith
number_positive W.Id = omega arith
number_positive W.Outer = omega arith
number_positive W.Book = omega arith
