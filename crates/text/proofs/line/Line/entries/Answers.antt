-- `entries` meets its contract: numbers are read one after the other (`Readings`), until the spectrum ends, and each is kept that has a place.
use Rattle.std.proofs.Common.{◌≡◌, ◌+◌, ◌≤◌, true, ap, length, Ok, Err, arith, sym, ◌∙◌, rules}
use Rattle.text.specs.Line.{Left, left, spectrum_ends}
use Rattle.text.proofs.line.Ends.{at_end, shorter}
use Rattle.text.proofs.line.Readings.{All, one_more, ended, full, faulty, keep_one, as_entries}
use Rattle.text.proofs.line.Line.entries.Goals as goal
use Rattle.text.proofs.line.Line.entries.Goals.{else-loop-test, then-loop-test+then-spectrum_ends, then-count-values, else-count-values}

pub loop-preserved : goal.loop-preserved
loop-preserved c =
    let v = c.args.values.now in
    let i = c.loop.counter in
    let n = length c.args.self.now.rest.now in
    let so_far = c.loop.invariant.so_far in
    let step = one_more spectrum_ends n _ i _ c.in_ok-x.x so_far c.loop-test.true (sym c.if-spectrum_ends.ensures) c.in_ok-x.ensures.value in
    let then = rw (← c.number.ensures.rest) at step.then in
    let less = shorter (left c.loop.self) c.in_ok-x.x c.in_ok-x.ensures.value in
    let bytes : length c.number.new.self.rest.now + (i + 1) ≤ n = omega (arith, ap (λ (l : Left). length l.rest) c.number.ensures.rest, less) in
    elim c.if-count-values.branch [
      | then-count-values w ↦ rw (w.values-is, w.count-is)
          (record {
            so_far = then;
            bytes = bytes;
            counted = omega arith;
            kept = keep_one _ v c.loop.values i c.loop.count c.in_ok-x.x so_far.within c.loop.invariant.counted (omega (arith, w.if-count-values.true)) step.taken c.loop.invariant.kept;
          })
      | else-count-values w ↦ rw (w.values-is, w.count-is)
          (record { so_far = then; bytes = bytes; counted = omega arith; kept = c.loop.invariant.kept })
    ]

pub returns-in_err-x : goal.returns-in_err-x
returns-in_err-x c =
    let v = c.args.values.now in
    let n = length c.args.self.now.rest.now in
    let all = faulty spectrum_ends n _ c.loop.counter _ _ c.loop.invariant.so_far c.loop-test.true (sym c.if-spectrum_ends.ensures) c.in_err-x.ensures.value in
    let e : c.from_residual.result ≡ Err c.in_err-x.field-0.0 = search rules in
    let r = as_entries v c.loop.values _ _ _ c.loop.count _ all c.loop.invariant.counted c.loop.invariant.kept in
    record { value = e ∙ r.value; rest = c.number.ensures.rest ∙ r.rest; values = r.places; end = rw e tt }

pub returns : goal.returns
returns c =
    let v = c.args.values.now in
    let n = length c.args.self.now.rest.now in
    let so_far = c.loop.invariant.so_far in
    let all : All spectrum_ends n (left c.args.self.now) c.loop.counter (left c.loop.self) (Ok tt) =
    elim c.loop-test.branch [
      | else-loop-test w ↦ full spectrum_ends n _ c.loop.counter _ so_far w.loop-test.false
      | then-loop-test+then-spectrum_ends w ↦ ended spectrum_ends n _ c.loop.counter _ so_far w.loop-test.true (sym w.if-spectrum_ends.ensures)
    ] in
    let r = as_entries v c.loop.values _ _ _ c.loop.count _ all c.loop.invariant.counted c.loop.invariant.kept in
    let end : spectrum_ends (left c.loop.self) ≡ true =
    elim c.loop-test.branch [
      | else-loop-test w ↦ at_end (left c.loop.self) (omega (arith, c.loop.invariant.bytes, w.loop-test.false))
      | then-loop-test+then-spectrum_ends w ↦ sym w.if-spectrum_ends.ensures
    ] in
    record { value = r.value; rest = r.rest; values = r.places; end = end }
