-- `rulvimba_c::lists::rulvimba_arrive_in` meets its contract: it is the contract of the function that it calls, for the same arguments.
use Rattle.rulvimba_c.proofs.lists.rulvimba_arrive_in.Goals as goal

pub returns : goal.returns
returns c = c.rulvimba_arrive_in.ensures
