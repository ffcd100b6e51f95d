-- `candidates::list::place` meets its contract: what `position` gives over the two columns side by side (`by_columns`).
use Rattle.std.proofs.Common.{rules, tests, ◌∙◌}
use Rattle.std.proofs.lemmas.Iterator.{YieldsList-from_slice, YieldsList-from_zip}
use Rattle.std.proofs.lemmas.Iterator.Search.{position_from_yields_List}
use Rattle.candidates.specs.Candidate.{goes_before}
use Rattle.candidates.proofs.Calls.{by_columns}
use Rattle.candidates.proofs.list.place.Goals as goal

pub returns : goal.returns
returns c =
    let a = c.args in
    let it = YieldsList-from_zip {s = c.zip.result} (YieldsList-from_slice a.ids.now cc) (YieldsList-from_slice a.densities.now cc) in
    let p = position_from_yields_List (λ p. goes_before a.c (record { id = p.0; density = p.1 })) c.position.new.self _ c.position.result c.position.ensures.ran it (λ x b q k. search (rules, tests)) in
    c.unwrap_or.ensures ∙ by_columns a.c a.ids.now a.densities.now c.requires c.position.result p
