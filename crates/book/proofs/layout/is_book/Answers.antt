-- `is_book` meets its contract: the pairs that are left decide (`laid_test`), one after the other (`next_pair`).
use Rattle.std.proofs.Common.{◌≡◌, ◌-◌, arith}
use Rattle.book.proofs.layout.PairByPair.{laid_test}
use Rattle.book.proofs.layout.is_book.Goals as goal

pub loop-i-init : goal.loop-i-init
loop-i-init c =
    let b = c.args.b.now in
    let all : c.count_in-n.result - 0 ≡ c.count_in-n.result = omega arith in
    record {
      rest = rw (all, c.parts_start-start.ensures, c.count_in-n.ensures.0) (laid_test b (λ i. omega (arith, c.type_inv.b i)) c.if-b-lt4.false c.if-b-gt-BOOK_MAX.false (omega arith));
      within = omega arith;
    }
