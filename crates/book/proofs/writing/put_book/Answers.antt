-- `writing::put_book` meets its contract: the count leaves it to all parts (`begun`), and each that is put to the others (`gone_on`), to finish the book.
use Rattle.std.proofs.Common.{arith, sym, ◌∙◌}
use Rattle.book.proofs.writing.Left.{left_out, none_left}
use Rattle.book.proofs.writing.Lengths.{one_less, all_parts, all_bytes}
use Rattle.book.proofs.writing.Finish.{finished, begun, gone_on}
use Rattle.book.proofs.writing.put_book.Goals as goal
use Rattle.book.proofs.writing.put_book.Goals.{then-is_new, else-is_new}

pub loop-i-init : goal.loop-i-init
loop-i-init c =
    let rs = c.args.surfaces.now in
    let a = all_parts rs in
    let b = all_bytes rs in
    record {
      finishes = begun rs c.args.buf.now _ _ _ c.requires.parts c.put_word.ensures c.parts_start-at.ensures (omega arith);
      apart = omega arith;
      ends = omega arith;
    }

pub loop-i-preserved : goal.loop-i-preserved
loop-i-preserved c =
    let rs = c.args.surfaces.now in
    let l = c.loop-i in
    elim c.if-is_new.branch [
      | then-is_new w ↦
          let is_new = sym c.is_new.ensures ∙ w.if-is_new.true in
          let less = one_less rs l.i c.loop-i-test.true is_new in
          let e = w.put_one-at.ensures in
          let next = gone_on rs l.i _ l.buf _ l.pair l.at _ c.loop-i-test.true is_new (e.buffer, e.end) l.invariant.apart (omega arith) in
          rw (w.buf-is, w.pair-is, w.at-is)
          (record { finishes = next.0 ∙ l.invariant.finishes; apart = omega arith; ends = omega arith })
      | else-is_new w ↦
          rw (w.buf-is, w.pair-is, w.at-is, ← left_out rs l.i c.loop-i-test.true (sym c.is_new.ensures ∙ w.if-is_new.false)) l.invariant
    ]

pub returns : goal.returns
returns c =
    let e = none_left c.args.surfaces.now c.loop-i.i c.loop-i-test.false in
    sym (finished c.loop-i.buf c.loop-i.pair c.loop-i.at) ∙ (rw e at c.loop-i.invariant).finishes
