use Rattle.sgp4_motion.proofs.GivenLemmas.{digits_in_code, fits_in_code, over_is, positive_digits, scale_in_code}
use Rattle.sgp4_motion.proofs.given.over.Goals as goal

pub overflow_mul-from : goal.overflow_mul-from
overflow_mul-from c =
    let scale = rw (c.from.ensures, c.places.ensures.value) at c.pow-scale.ensures in
    fits_in_code c.args.number c.args.num c.pow-scale.result c.places.ensures.decimal c.requires.small c.from-2.ensures c.from-3.ensures scale

pub from_ratio-requires : goal.from_ratio-requires
from_ratio-requires c =
    let bottom = digits_in_code c.args.number c.args.den c.digits.ensures.decimal c.requires.small_divisor (rw c.digits.ensures.value at c.from-4.ensures) c.from-5.ensures in
    rw bottom (positive_digits c.args.number c.args.den c.requires.divisor c.requires.positive)

pub returns : goal.returns
returns c =
    let scale = rw (c.from.ensures, c.places.ensures.value) at c.pow-scale.ensures in
    let top = scale_in_code c.args.number c.args.num c.pow-scale.result c.places.ensures.decimal c.requires.small c.from-2.ensures c.from-3.ensures scale in
    let bottom = digits_in_code c.args.number c.args.den c.digits.ensures.decimal c.requires.small_divisor (rw c.digits.ensures.value at c.from-4.ensures) c.from-5.ensures in
    over_is c.args.number c.args.num c.args.den c.requires.divisor c.requires.positive top bottom c.from_ratio.ensures
