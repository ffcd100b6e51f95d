-- `rulvimba::books::rulvimba_read_book` meets its contract: the record is that of the answer, whose number of surfaces and places are those of `read`.
use mathlib.Core.Path.{ap, ◌∙◌}
use Rattle.rulvimba.specs.Books.{count_result}
use Rattle.rulvimba.proofs.books.rulvimba_read_book.Goals as goal

pub returns : goal.returns
returns c = (c.from.ensures ∙ ap count_result c.read.ensures.count, c.read.ensures.places)
