-- `rulvimba::surfaces::made` meets its contract: a number that is no kind's code is refused as 1 (`unknown_made`).
use Rattle.std.proofs.Common.{◌≡◌, ℕ, zero, suc, ◌<◌, arith, sym, ◌∙◌, Err}
use Rattle.numbers.specs.Refusal.{number}
use Rattle.optics.specs.Surface.{kind_read}
use Rattle.optics.specs.declared.microfacet.UnknownKind.{UnknownKind}
use Rattle.rulvimba.proofs.UnknownKind.{unknown_made}
use Rattle.rulvimba.proofs.surfaces.made.Goals as goal

no_kind : (code : ℕ) (why : UnknownKind) → kind_read code ≡ Err why → 1 < code
unfolding kind_read
no_kind zero why e = (cc)
no_kind (suc zero) why e = (cc)
no_kind (suc (suc n)) why e = omega arith

pub returns-in-Err : goal.returns-in-Err
unfolding number
returns-in-Err c = sym (unknown_made _ _ _ _ _ (no_kind _ _ (sym c.try_from.ensures ∙ c.in-Err.is)))
