use Rattle.std.proofs.Common.{arith, ◌≤◌}
use Rattle.civil_time.proofs.ColumnLemmas.{ten_pow-le}
use Rattle.civil_time.proofs.columns.number.Goals as goal

pub overflow_mul-number : goal.overflow_mul-number
overflow_mul-number c =
    let few : c.loop-digit.digit-index ≤ 8 = omega arith in
    omega (arith, ten_pow-le c.loop-digit.digit-index 8 few)

pub overflow_add-number : goal.overflow_add-number
overflow_add-number c =
    let few : c.loop-digit.digit-index ≤ 8 = omega arith in
    omega (arith, ten_pow-le c.loop-digit.digit-index 8 few)
