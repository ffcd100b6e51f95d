-- `path::facet::Facet::new` meets its contract: Λ(wo) and the cosine are what the calls gave.
use Rattle.path.proofs.facet.Facet.new.Goals as goal

pub invariant_of-result : goal.invariant_of-result
invariant_of-result c =
    let view = c.new.ensures in
    record { is_lambda = rw (← view.0, ← view.1, ← view.2) at view.3; is_cosine = rw (← view.1) at c.dot.ensures }
