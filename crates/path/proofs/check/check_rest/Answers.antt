-- `path::check::check_rest` meets its contract: each check gives what its contract promises, in the order of the definition.
use Rattle.std.proofs.Common.{refl}
use Rattle.numbers.specs.Refusal.{number}
use Rattle.path.specs.Path.{is_power, is_filter}
use Rattle.path.specs.Bounce.{check_rest}
use Rattle.path.proofs.check.check_rest.Goals as goal

pub returns : goal.returns
unfolding check_rest number is_power is_filter
returns c =
    rw (
      ← c.is_path_lambda.ensures,
      ← c.in_ok-refuse.ensures,
      ← c.all_shares.ensures,
      ← c.in_ok-refuse-2.ensures,
      ← c.in_ok-check_direction.ensures,
      ← c.in_ok-check_direction-2.ensures,
      ← c.in_ok-check_random.ensures,
      ← c.in_ok-check_random-2.ensures,
      ← c.in_ok-check_circle_pair.ensures,
      ← c.all_shares-2.ensures,
      ← c.in_ok-refuse-3.ensures,
      c.refuse-4.ensures,
      c.all_shares-3.ensures,
    ) refl
