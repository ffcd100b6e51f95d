-- `Entries::spectrum` meets its contract: it lends the values that count.
use Rattle.std.proofs.Common.{◌≡◌, length, refl, rules}
use Rattle.jobs.proofs.Kept.{lent}
use Rattle.jobs.proofs.entries.Entries.spectrum.Goals as goal

pub returns : goal.returns
returns c =
    let long : length c.args.self.now.values ≡ 472 = search rules in
    rw (c.new.ensures, c.unwrap_or.ensures) (lent c.args.self.now.values _ _ _ long refl c.get.ensures.lookup)
