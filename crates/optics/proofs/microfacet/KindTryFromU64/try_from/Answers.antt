-- `try_from` from a number to a kind meets its contract at glass's code: by hand, so that a wrong kind there shows two sides.
use Rattle.std.proofs.Common.{refl}
use Rattle.optics.specs.Surface.{kind_read, kind_of}
use Rattle.optics.proofs.microfacet.KindTryFromU64.try_from.Goals as goal

pub returns-in-1 : goal.returns-in-1
unfolding kind_read kind_of
returns-in-1 c = rw c.in-1.is refl
