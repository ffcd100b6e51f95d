-- `digit` meets its contract: a byte that is one of the two glyphs of the value guessed from its bits has that value, and another has none (`Glyphs`).
use Rattle.std.proofs.Common.{arith, inl, inr}
use Rattle.text.proofs.digits.Glyphs.{of_glyph, of_none}
use Rattle.text.proofs.digits.digit.Goals as goal
use Rattle.text.proofs.digits.digit.Goals.{then-b-glyphs-via-then-b-glyphs, then-b-glyphs-via-else-b-glyphs+then-b-glyphs-2}

pub returns-then-b-glyphs : goal.returns-then-b-glyphs
returns-then-b-glyphs c =
    of_glyph c.args.b (omega arith)
    (elim c.then-b-glyphs.branch [
      | then-b-glyphs-via-then-b-glyphs w ↦ inl w.if-b-glyphs.true
      | then-b-glyphs-via-else-b-glyphs+then-b-glyphs-2 w ↦ inr w.if-b-glyphs-2.true
    ])

pub returns : goal.returns
returns c = of_none c.args.b (omega arith) c.if-b-glyphs.false c.if-b-glyphs-2.false
