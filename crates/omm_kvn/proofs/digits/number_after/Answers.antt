use Rattle.std.proofs.Common.{◌+◌, arith}
use Rattle.std.proofs.lemmas.Grind.{common_steps}
use Rattle.omm_kvn.proofs.NumberLemmas.{digit_at, digit_more, digit_room}
use Rattle.omm_kvn.proofs.digits.number_after.Goals as goal

pub overflow_mul-number : goal.overflow_mul-number
overflow_mul-number c =
    let room = digit_room c.loop-digit.number (c.args.before + 1) c.loop-digit.digit-index _ c.loop-digit.invariant.1 c.loop-digit-test.true c.requires.fits in
    omega arith

pub overflow_add-number : goal.overflow_add-number
overflow_add-number c =
    let room = digit_room c.loop-digit.number (c.args.before + 1) c.loop-digit.digit-index _ c.loop-digit.invariant.1 c.loop-digit-test.true c.requires.fits in
    omega (arith, c.from.ensures, c.type_inv.digits c.loop-digit.digit-index)

pub loop-digit-preserved : goal.loop-digit-preserved
loop-digit-preserved c =
    let digit = digit_at c.args.digits.now c.loop-digit.digit-index c.requires.digits c.loop-digit-test.true in
    (grind (arith, common_steps), digit_more c.loop-digit.number (c.args.before + 1) c.loop-digit.digit-index c.from.result c.loop-digit.invariant.1 (omega (arith, c.from.ensures)))
