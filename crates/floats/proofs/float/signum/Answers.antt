-- `floats::float::signum` meets its contract: the sign bit over the pattern of 1.0 is that of 1 with the sign.
use denote.Floats.{passes}
use Rattle.std.proofs.Common.{sym, ◌∙◌, arith}
use Rattle.floats.proofs.float.FloatBits.{nan_signum, is_number, sign-digit, signum-bits, signum_not_nan}
use Rattle.floats.proofs.float.signum.Goals as goal

pub returns-then-is_nan : goal.returns-then-is_nan
returns-then-is_nan c = nan_signum c.args.x (sym c.is_nan.ensures.value ∙ c.if-is_nan.true)

pub overflow_mul-result : goal.overflow_mul-result
overflow_mul-result c = record { fits = omega (arith, sign-digit c.args.x (passes _ c.well_formed.0.1)) }

pub overflow_add-result : goal.overflow_add-result
overflow_add-result c = record { fits = omega (arith, sign-digit c.args.x (passes _ c.well_formed.0.1)) }

pub float_from_bits-result : goal.float_from_bits-result
float_from_bits-result c =
    let x = c.args.x in
    signum_not_nan x (passes _ c.well_formed.0.1) (is_number x (sym c.is_nan.ensures.value ∙ c.if-is_nan.false))

pub returns-else-is_nan : goal.returns-else-is_nan
returns-else-is_nan c =
    let x = c.args.x in
    signum-bits x (passes _ c.well_formed.0.1) (is_number x (sym c.is_nan.ensures.value ∙ c.if-is_nan.false))
