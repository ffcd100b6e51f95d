-- `candidates::list::check_arrival` meets its contract: the definition, check by check.
use Rattle.std.proofs.Common.{◌≡◌, ◌∙◌, not, ltb, length}
use Rattle.numbers.specs.Refusal.{number, verdict, refuse, accepted}
use Rattle.candidates.specs.Memory.{check}
use Rattle.candidates.proofs.list.check_arrival.Goals as goal

pub returns : goal.returns
unfolding check number
returns c =
    let room : accepted ≡ refuse 11 (ltb (length c.args.ids.now) 64) = c.in_ok-refuse.ensures in
    let id : verdict c.refuse-2.result ≡ refuse 12 (not c.is_among.result) = c.refuse-2.ensures in
    id ∙ rw (← c.in_ok-check.ensures, ← room, c.is_among.ensures)
