-- `from_word` meets its contract: what `position` gives over the text is the place of its first byte that is no blank.
use Rattle.std.proofs.Common.{rules, tests, not, sym, ◌∙◌}
use Rattle.std.proofs.lemmas.Iterator.{YieldsList-from_slice}
use Rattle.std.proofs.lemmas.Iterator.Search.{position_from_yields_List}
use Rattle.std.proofs.lemmas.List.Sums.{prefix_len-le-length}
use Rattle.text.specs.Words.{is_blank, from_word}
use Rattle.text.proofs.words.Places.{at_word, at_comment, at_none}
use Rattle.text.proofs.words.from_word.Goals as goal
use Rattle.text.proofs.words.from_word.Goals.{in_default-via-in-Some+else-text-at-ne35, in_default-via-in_default}

pub returns-in-Some : goal.returns-in-Some
unfolding from_word
returns-in-Some c =
    let t = c.args.text.now in
    let p = position_from_yields_List (λ b. not (is_blank b)) _ _ _ c.position.ensures.ran (YieldsList-from_slice t cc) (λ x b q k. search (rules, tests)) in
    at_word _ _ t (sym c.in-Some.is ∙ p) c.if-text-at-ne35.true

pub returns-in_default : goal.returns-in_default
unfolding from_word
returns-in_default c =
    let t = c.args.text.now in
    let p = position_from_yields_List (λ b. not (is_blank b)) _ _ _ c.position.ensures.ran (YieldsList-from_slice t cc) (λ x b q k. search (rules, tests)) in
    elim c.in_default.branch [
      | in_default-via-in-Some+else-text-at-ne35 w ↦ at_comment _ _ t (sym w.in-Some.is ∙ p) w.if-text-at-ne35.false
      | in_default-via-in_default w ↦ at_none _ t (sym w.in_default.is ∙ p) (prefix_len-le-length (λ b. not (not (is_blank b))) t)
    ]
