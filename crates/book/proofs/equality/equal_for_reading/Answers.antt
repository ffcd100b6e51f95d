-- `book::equality::equal_for_reading` meets its contract: each test as `OfParts` has it.
use Rattle.book.proofs.layout.OnePart.{is_part_of}
use Rattle.book.proofs.equality.OfParts.{other_kind, other_step, other_given, by_entries}
use Rattle.book.proofs.equality.equal_for_reading.Goals as goal
use Rattle.book.proofs.equality.equal_for_reading.Goals.{then-p-q-via-then-p-q, then-p-q-via-else-p-q+then-p-q-2}

pub returns-then-p-q : goal.returns-then-p-q
returns-then-p-q c =
    let p = c.args.p.now in
    let q = c.args.q.now in
    let part_p = is_part_of p c.requires.0 in
    let part_q = is_part_of q c.requires.1 in
    elim c.then-p-q.branch [
      | then-p-q-via-then-p-q w ↦ other_kind p q part_p part_q w.if-p-q.true
      | then-p-q-via-else-p-q+then-p-q-2 w ↦ other_step p q part_p part_q w.if-p-q-2.true
    ]

pub returns-then-raised : goal.returns-then-raised
returns-then-raised c =
    let other = rw (c.raised.ensures, c.double_at.ensures, c.raised-2.ensures, c.double_at-2.ensures) at c.if-raised.true in
    other_given c.args.p.now c.args.q.now (is_part_of _ c.requires.0) (is_part_of _ c.requires.1) other

pub returns : goal.returns
returns c =
    let given = rw (c.raised.ensures, c.double_at.ensures, c.raised-2.ensures, c.double_at-2.ensures) at c.if-raised.false in
    rw (c.same_doubles.ensures, c.samples_of.ensures.0)
    (by_entries c.args.p.now c.args.q.now (is_part_of _ c.requires.0) (is_part_of _ c.requires.1) c.if-p-q.false c.if-p-q-2.false given)
