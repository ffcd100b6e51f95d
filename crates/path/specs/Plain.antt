-- An answer laid out as a plain record: document 01's number, which is 0 where the bounce is accepted, and the values, which are zeros where there are none. Definitions only.
use Rattle.std.specs.Prelude.{Option, Some, None, Float}
use Rattle.floats.specs.Float.{f0}
use Rattle.numbers.specs.Vec3.{vec3}
use Rattle.path.specs.Answer.{Shares, Outcome, refusal, lost, reflected, passed}
pub use Rattle.path.specs.declared.plain.{DensityRecord.DensityRecord, SharesRecord.SharesRecord, BounceResult.BounceResult}

-- ---- a bounce: 0 refused, 1 lost, 2 reflected, 3 passed
abbrev pub no_density : DensityRecord
no_density = record { finite = 0; value = f0 }

unfoldable pub density_record : Option Float → DensityRecord
density_record (Some x) = record { finite = 1; value = x }
density_record None = no_density

abbrev pub no_shares : SharesRecord
no_shares = record { given = 0; reflected = f0; passed = f0 }

unfoldable pub shares_record : Option Shares → SharesRecord
shares_record (Some shares) = record { given = 1; reflected = shares.reflected; passed = shares.passed }
shares_record None = no_shares

unfoldable pub bounce_result : Outcome → BounceResult
bounce_result (refusal n p) = record { number = n; outcome = 0; wi = (vec3 f0 f0 f0); density = no_density; shares = no_shares }
bounce_result (lost shares p) = record { number = 0; outcome = 1; wi = (vec3 f0 f0 f0); density = no_density; shares = shares_record shares }
bounce_result (reflected wi density shares p) = record { number = 0; outcome = 2; wi = wi; density = density_record density; shares = shares_record shares }
bounce_result (passed wi density shares p) = record { number = 0; outcome = 3; wi = wi; density = density_record density; shares = shares_record shares }
