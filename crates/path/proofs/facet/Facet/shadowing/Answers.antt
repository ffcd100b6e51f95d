-- `path::facet::Facet::shadowing` meets its contract: by its two tests, and where neither holds Λ(wo) and the cosine that are handed on change nothing, by `g_over_g1_at_lem`.
use Rattle.std.proofs.Common.{◌≡◌, true, false, refl}
use lib.Ieee.{of_bits}
use Rattle.optics.proofs.SharedTerms.{g_over_g1_at_lem}
use Rattle.path.specs.Bounce.{along_wall, shadowing}
use Rattle.path.proofs.facet.Facet.shadowing.Goals as goal

pub returns-then-self : goal.returns-then-self
unfolding shadowing of_bits
returns-then-self c = rw c.if-self.true

pub returns-then-is_along_wall : goal.returns-then-is_along_wall
unfolding shadowing of_bits
returns-then-is_along_wall c =
    let wall : along_wall c.args.wi ≡ true = rw c.is_along_wall.ensures at c.if-is_along_wall.true in
    rw (c.if-self.false, wall) refl

pub returns-else-is_along_wall : goal.returns-else-is_along_wall
unfolding shadowing of_bits
returns-else-is_along_wall c =
    let facet = c.args.self in
    let wall : along_wall c.args.wi ≡ false = rw c.is_along_wall.ensures at c.if-is_along_wall.false in
    rw (wall, c.g_over_g1.ensures, facet.is_lambda, facet.is_cosine, c.if-self.false) (g_over_g1_at_lem _ _ _ _)
