-- `candidates::list::depart` meets its contract: what its stages give is the definition's (`departs`, `departs_not`).
use Rattle.std.proofs.Common.{rules, arith, ◌≡◌, Err, None, Some, sym, ◌∙◌}
use Rattle.numbers.specs.Refusal.{number}
use Rattle.numbers.specs.declared.refusal.Refusal.TheVariants as W
use Rattle.candidates.specs.Memory.{memory, Sized}
use Rattle.candidates.proofs.Calls.{departs_not, departs}
use Rattle.candidates.proofs.list.depart.Goals as goal

pub returns-in_err-at : goal.returns-in_err-at
unfolding number
returns-in_err-at c =
    let a = c.args in
    let m = memory a.count.now a.ids.now a.densities.now in
    let s : Sized m = record { ids = omega arith; densities = omega arith } in
    let e : c.find.result ≡ None = search rules in
    let w : c.from_residual.result ≡ Err W.Id = search rules in
    rw w (departs_not m s c.in_use-n.result c.in_use-n.ensures a.id (sym c.find.ensures ∙ e))

pub returns : goal.returns
returns c =
    let a = c.args in
    let m = memory a.count.now a.ids.now a.densities.now in
    let s : Sized m = record { ids = omega arith; densities = omega arith } in
    let e : c.find.result ≡ Some c.in_ok-at.at = search rules in
    rw (c.take_out.ensures, c.take_out-2.ensures) (departs m s c.in_use-n.result c.in_use-n.ensures a.id c.in_ok-at.at (sym c.find.ensures ∙ e))
