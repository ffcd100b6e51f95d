-- `Entries::spread` meets its contract: what is filled is the lone entry as often, and where there is no room nothing is left of it.
use Rattle.std.proofs.Common.{◌≡◌, ◌==◌, cond, [], length, get_or, replicate, rules, refl}
use lib.Ieee.{nan}
use Rattle.jobs.specs.Surface.{entries_of, spread}
use Rattle.jobs.proofs.Kept.{filled}
use Rattle.jobs.proofs.entries.Entries.spread.Goals as goal

pub returns-then-samples-gt-ENTRIES_READ-clause-past : goal.returns-then-samples-gt-ENTRIES_READ-clause-past
unfolding entries_of
returns-then-samples-gt-ENTRIES_READ-clause-past c more =
    let one : cond (length (entries_of c.args.self.now) == 1) [] (entries_of c.args.self.now) ≡ [] = search rules in
    rw one refl

pub returns-else-samples-gt-ENTRIES_READ-clause-within : goal.returns-else-samples-gt-ENTRIES_READ-clause-within
unfolding entries_of spread
returns-else-samples-gt-ENTRIES_READ-clause-within c room =
    let long : length c.args.self.now.values ≡ 472 = search rules in
    let lone : spread c.args.samples (entries_of c.args.self.now) ≡ replicate c.args.samples (get_or c.args.self.now.values 0 nan) = search rules in
    rw (filled c.args.samples c.args.self.now.values _ _ _ long room (c.fill.ensures.after (λ y is. is)), lone) refl
