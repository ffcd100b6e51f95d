-- `candidates::list::arrive` meets its contract: what its stages give is the definition's (`refuses`, `arrives`).
use Rattle.std.proofs.Common.{rules, arith, ◌≡◌, Err}
use Rattle.candidates.specs.Memory.{memory, Sized, arrival}
use Rattle.candidates.proofs.Calls.{refuses, put_within, arrives}
use Rattle.candidates.proofs.list.arrive.Goals as goal

pub returns-in_err-check_arrival : goal.returns-in_err-check_arrival
returns-in_err-check_arrival c =
    let a = c.args in
    let m = memory a.count.now a.ids.now a.densities.now in
    let s : Sized m = record { ids = omega arith; densities = omega arith } in
    let e : c.from_residual.result ≡ Err c.in_err-check_arrival.field-0.0 = search rules in
    rw e (refuses m s c.in_use-n.result c.in_use-n.ensures (arrival a.c) _ c.in_err-check_arrival.ensures)

pub put-requires : goal.put-requires
put-requires c =
    let a = c.args in
    let m = memory a.count.now a.ids.now a.densities.now in
    let s : Sized m = record { ids = omega arith; densities = omega arith } in
    let w = put_within m s c.in_use-n.result c.in_use-n.ensures a.c c.in_ok-check_arrival.ensures c.place-at.result c.place-at.ensures in
    (w.0, omega arith)

pub put-requires-2 : goal.put-requires-2
put-requires-2 c =
    let a = c.args in
    let m = memory a.count.now a.ids.now a.densities.now in
    let s : Sized m = record { ids = omega arith; densities = omega arith } in
    let w = put_within m s c.in_use-n.result c.in_use-n.ensures a.c c.in_ok-check_arrival.ensures c.place-at.result c.place-at.ensures in
    (w.0, omega arith)

pub returns : goal.returns
returns c =
    let a = c.args in
    let m = memory a.count.now a.ids.now a.densities.now in
    let s : Sized m = record { ids = omega arith; densities = omega arith } in
    let n = c.in_use-n in
    rw (c.put.ensures, c.put-2.ensures) (arrives m s n.result n.ensures a.c c.in_ok-check_arrival.ensures c.place-at.result c.place-at.ensures)
