-- `path::plain::SharesRecordFromOptionShares::from` meets its contract where there are shares: each is in its place.
use Rattle.std.proofs.Common.{ap, sym}
use Rattle.path.specs.Plain.{shares_record}
use Rattle.path.proofs.plain.SharesRecordFromOptionShares.from.Goals as goal

pub returns-in-Some : goal.returns-in-Some
unfolding shares_record
returns-in-Some c = ap shares_record (sym c.in-Some.is)
