-- `rulvimba::records::number_and` meets its contract: the value of an answer, and what stands where there is none.
use Rattle.std.proofs.Common.{refl}
use Rattle.rulvimba.proofs.records.number_and.Goals as goal

pub returns-in-Ok : goal.returns-in-Ok
returns-in-Ok g c = rw c.in-Ok.is (refl, refl)

pub returns-in-Err : goal.returns-in-Err
returns-in-Err g c = rw c.in-Err.is (c.number.ensures, refl)
