-- `path::prepared::Prepared::bounce` meets its contract: the checks are those of the definition, and what was found of the surface is that of its kind.
use Rattle.std.proofs.Common.{◌∙◌}
use Rattle.path.specs.Answer.{bounce, answered, outcome}
use Rattle.path.proofs.Found.{told, metal_found, glass_found}
use Rattle.path.proofs.prepared.Prepared.bounce.Goals as goal

pub returns-in-Err : goal.returns-in-Err
unfolding bounce answered outcome
returns-in-Err c = rw (told c.in-Err.is _ _ c.checked.ensures)

pub on_metal-requires : goal.on_metal-requires
on_metal-requires c = metal_found _ _ _ _ ((told c.in-Ok-Metal.is _ _ c.checked.ensures).1 ∙ c.in-Ok-Metal.field-0-is)

pub on_glass-requires : goal.on_glass-requires
on_glass-requires c = glass_found _ _ _ _ ((told c.in-Ok-Glass.is _ _ c.checked.ensures).1 ∙ c.in-Ok-Glass.field-0-is)

pub returns-in-Ok-Metal : goal.returns-in-Ok-Metal
unfolding bounce answered
returns-in-Ok-Metal c = rw ((told c.in-Ok-Metal.is _ _ c.checked.ensures).0) (c.on_metal.ensures _)

pub returns-in-Ok-Glass : goal.returns-in-Ok-Glass
unfolding bounce answered
returns-in-Ok-Glass c = rw ((told c.in-Ok-Glass.is _ _ c.checked.ensures).0, ← c.on_glass.ensures)
