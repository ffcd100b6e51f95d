-- `path::many::bounce_in` meets its contract: the nineteen numbers in their places.
use Rattle.std.proofs.Common.{refl}
use Rattle.path.specs.Many.{bounce_in}
use Rattle.path.proofs.many.bounce_in.Goals as goal

pub returns : goal.returns
unfolding bounce_in
returns c = rw (c.vec3_at.ensures, c.vec3_at-2.ensures, c.is_set.ensures, c.color_at.ensures, c.color_at-2.ensures) refl
