-- `book::reading::read` meets its contract: a record more is stored (`stored_more`), until there is no place or no part (`stored_all`). A book has few (`few_parts`).
use Rattle.std.proofs.Common.{arith, refl}
use Rattle.numbers.specs.Refusal.{unless_refused}
use Rattle.book.specs.Book.{read_book}
use Rattle.numbers.specs.Written.{over}
use Rattle.book.specs.Record.{read_to}
use Rattle.book.proofs.layout.Parts.{few_parts, length-parts}
use Rattle.book.proofs.reading.Rest.{has_count}
use Rattle.book.proofs.reading.Stored.{accepted_is_book, length-surfaces_in, stored_more, stored_all}
use Rattle.book.proofs.reading.read.Goals as goal

pub returns-in_err-check_book-clause-places : goal.returns-in_err-check_book-clause-places
unfolding read_to unless_refused
returns-in_err-check_book-clause-places c = rw (← c.in_err-check_book.ensures)

pub count_in-n-requires : goal.count_in-n-requires
count_in-n-requires c = has_count c.args.b.now (accepted_is_book c.args.b.now c.in_ok-check_book.ensures)

pub loop-i-init : goal.loop-i-init
unfolding over
loop-i-init c = refl

pub part_at-requires : goal.part_at-requires
part_at-requires c = (accepted_is_book c.args.b.now c.in_ok-check_book.ensures, omega arith)

pub loop-i-preserved : goal.loop-i-preserved
loop-i-preserved c =
    let a = c.args in
    rw (c.loop-i.invariant, c.read_part.ensures, c.part_at.ensures.0) (stored_more a.b.now a.first c.loop-i.i a.out.now (omega arith) (omega arith))

pub returns-clause-count : goal.returns-clause-count
unfolding read_book
returns-clause-count c = rw (← c.in_ok-check_book.ensures, length-surfaces_in c.args.b.now, c.count_in-n.ensures.0)

pub returns-clause-bound : goal.returns-clause-bound
returns-clause-bound c =
    let b = c.args.b.now in
    rw (c.count_in-n.ensures.0, ← length-parts b) (few_parts b (accepted_is_book b c.in_ok-check_book.ensures))

pub returns-clause-places : goal.returns-clause-places
unfolding read_to unless_refused
returns-clause-places c =
    let a = c.args in
    rw (c.loop-i.invariant, ← c.in_ok-check_book.ensures) (stored_all a.b.now a.first c.loop-i.i a.out.now (omega arith))
