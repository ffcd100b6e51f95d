-- `split_word` meets its contract: what `position` gives over the text is the place of its first blank, or its end.
use Rattle.std.proofs.Common.{rules, tests, not}
use Rattle.std.proofs.lemmas.Iterator.{YieldsList-from_slice}
use Rattle.std.proofs.lemmas.Iterator.Search.{position_from_yields_List}
use Rattle.std.proofs.lemmas.List.Sums.{prefix_len-le-length}
use Rattle.text.specs.Words.{is_blank}
use Rattle.text.proofs.words.Places.{or_length}
use Rattle.text.proofs.words.split_word.Goals as goal

pub returns-clause-word : goal.returns-clause-word
returns-clause-word c =
    let t = c.args.text.now in
    let p = position_from_yields_List is_blank _ _ _ c.position.ensures.ran (YieldsList-from_slice t cc) (λ x b q k. search (rules, tests)) in
    rw (c.split_at.ensures.front, c.unwrap_or-end.ensures, or_length _ _ _ (prefix_len-le-length (λ b. not (is_blank b)) t) p)

pub returns-clause-rest : goal.returns-clause-rest
returns-clause-rest c =
    let t = c.args.text.now in
    let p = position_from_yields_List is_blank _ _ _ c.position.ensures.ran (YieldsList-from_slice t cc) (λ x b q k. search (rules, tests)) in
    rw (c.split_at.ensures.back, c.unwrap_or-end.ensures, or_length _ _ _ (prefix_len-le-length (λ b. not (is_blank b)) t) p)
