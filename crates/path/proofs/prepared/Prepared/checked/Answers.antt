-- `path::prepared::Prepared::checked` meets its contract: the surface's check, then the others, as in the definition.
use Rattle.std.proofs.lemmas.Result.{err_from_is_err_and}
use Rattle.path.specs.Known.{found}
use Rattle.path.specs.Bounce.{check_bounce}
use Rattle.path.proofs.Found.{told}
use Rattle.path.proofs.prepared.Prepared.checked.Goals as goal

pub returns-in_err-found : goal.returns-in_err-found
unfolding check_bounce found
returns-in_err-found c =
    let p = err_from_is_err_and c.from_residual.result c.from_residual.ensures.1 in
    rw (p.1, p.2, told c.in_err-found.was _ _ c.args.self.now.is_found)

pub returns-in_err-check_rest : goal.returns-in_err-check_rest
unfolding check_bounce found
returns-in_err-check_rest c =
    let p = err_from_is_err_and c.from_residual-in_err-check_rest.result c.from_residual-in_err-check_rest.ensures.1 in
    rw (p.1, p.2, (told c.in_ok-found.was _ _ c.args.self.now.is_found).0, ← c.in_err-check_rest.ensures)

pub returns : goal.returns
unfolding check_bounce found
returns c =
    let passed = told c.in_ok-found.was _ _ c.args.self.now.is_found in
    rw (passed.0, ← c.in_ok-check_rest.ensures, passed.1)
