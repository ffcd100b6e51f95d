-- `writing::is_new` meets its contract: by the form that the definition has at a place (`new_at`).
use Rattle.std.proofs.Common.{not, ap, sym, ◌∙◌}
use Rattle.book.proofs.writing.Left.{new_at}
use Rattle.book.proofs.writing.is_new.Goals as goal

pub returns : goal.returns
returns c = ap not c.is_among.ensures ∙ sym (new_at c.args.surfaces.now c.args.i _ c.requires)
