-- `Record::put_part` meets its contract: its four puts fill the part (`part_put`).
use Rattle.book.specs.Record.{surface_of}
use Rattle.book.proofs.record.Part.{part_put}
use Rattle.book.proofs.record.Record.put_part.Goals as goal

pub returns : goal.returns
returns c =
    part_put (surface_of c.args.self.now) c.args.part.now _ _ _ _ c.requires.room (rw c.head.ensures at c.put.ensures) (rw c.given.ensures at c.put_double.ensures)
    (rw c.eta-eta.ensures at c.put_doubles.ensures) (rw (c.eta-eta.ensures, c.k.ensures) at c.put_doubles-2.ensures)
