-- `rulvimba_c::bounces::rulvimba_bounces` meets its contract: it is the contract of the function that it calls, for the same arguments.
use Rattle.rulvimba_c.proofs.bounces.rulvimba_bounces.Goals as goal

pub returns : goal.returns
returns c = c.rulvimba_bounces.ensures
