-- `rulvimba::records::number_of` meets its contract where a check passed: by hand, so that another number shows two sides.
use Rattle.std.proofs.Common.{refl}
use Rattle.rulvimba.specs.Results.{check_number}
use Rattle.rulvimba.proofs.records.number_of.Goals as goal

pub returns-in-Ok : goal.returns-in-Ok
unfolding check_number
returns-in-Ok c = rw c.in-Ok.is refl
