use Rattle.std.proofs.Common.{arith}
use Rattle.std.proofs.lemmas.Grind.{common_steps}
use Rattle.pass_words.proofs.NumberLemmas.{digit_at, digit_more, ten_pow_le}
use Rattle.pass_words.proofs.digits.number_of.Goals as goal

pub overflow_mul-number : goal.overflow_mul-number
overflow_mul-number c =
    let room = ten_pow_le c.loop-digit.digit-index 8 (omega arith) in
    omega arith

pub overflow_add-number : goal.overflow_add-number
overflow_add-number c =
    let room = ten_pow_le c.loop-digit.digit-index 8 (omega arith) in
    omega (arith, c.from.ensures, c.type_inv.digits c.loop-digit.digit-index)

pub loop-digit-preserved : goal.loop-digit-preserved
loop-digit-preserved c =
    let digit = digit_at c.args.digits.now c.loop-digit.digit-index c.requires.digits c.loop-digit-test.true in
    (grind (arith, common_steps), digit_more c.loop-digit.number c.loop-digit.digit-index c.from.result c.loop-digit.invariant.1 (omega (arith, c.from.ensures)))
