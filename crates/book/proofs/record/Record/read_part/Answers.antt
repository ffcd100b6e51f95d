-- `book::record::Record::read_part` meets its contract: its codes are those of the part (`kind_again`, `flag_again`), and so is each number read.
use Rattle.std.proofs.Common.{drop}
use Rattle.book.specs.Layout.{kind_byte, flag_byte}
use Rattle.book.specs.Surfaces.{surface_in}
use Rattle.book.specs.Record.{record_of}
use Rattle.book.proofs.Doubles.{length-doubles_in}
use Rattle.book.proofs.layout.OnePart.{is_part_of}
use Rattle.book.proofs.Surfaces.{kind_again, flag_again}
use Rattle.book.proofs.record.Record.read_part.Goals as goal

pub returns : goal.returns
unfolding surface_in record_of
returns c =
    let p = c.args.p.now in
    let part = is_part_of p c.requires in
    let n = c.samples_of-n.result in
    rw (
      c.splat-self.ensures,
      c.raised.ensures,
      c.double_at-given.ensures,
      c.spectrum.ensures,
      c.spectrum-2.ensures,
      c.ones.ensures,
      kind_again (kind_byte p) part.kind,
      flag_again (flag_byte p) part.flag,
      ← c.samples_of-n.ensures.0,
      length-doubles_in n (drop 11 p),
    )
