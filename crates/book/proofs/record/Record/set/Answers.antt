-- `Record::set` meets its contract: what was accepted is offered as it was given (`made_offers`).
use Rattle.book.proofs.record.Part.{flag_byte}
use Rattle.book.proofs.record.Made.{tables, made_offers}
use Rattle.book.proofs.record.Record.set.Goals as goal

pub returns : goal.returns
returns c =
    let a = c.args in
    let r = a.self.now in
    let ok = rw (← c.spectra.view_is) at c.requires in
    let offers = made_offers a.kind a.two_sided a.given _ _ _ r.eta r.k r.outer (tables a.kind _ _ _ ok) in
    rw (← c.spectra.view_is, c.from-self.ensures, flag_byte a.two_sided, c.splat-self.ensures, c.raised.ensures, c.put.ensures, c.put-2.ensures, c.put_outer.ensures) offers
