use Rattle.std.proofs.Common.{ap, pos, ◌^◌, ◌∙◌}
use Rattle.decimals.proofs.UnitsLemmas.{ten_pow_fits, ten_pow_pos}
use Rattle.sgp4_motion.proofs.GivenLemmas.{digits_in_code, positive_digits}
use Rattle.sgp4_init.proofs.GivenLemmas.{over_is}
use Rattle.sgp4_init.proofs.given.over.Goals as goal

pub from_ratio-requires : goal.from_ratio-requires
from_ratio-requires c =
    let number = c.args.number in
    let divisor = c.args.divisor in
    let scale = rw (c.from-2.ensures, c.places-2.ensures.value) at c.pow-down.ensures in
    let bottom = digits_in_code divisor (10 ^ number.places) c.digits-2.ensures.decimal (ten_pow_fits number.places c.places-2.ensures.decimal.most_places) (rw c.digits-2.ensures.value at c.from-5.ensures) (c.from-6.ensures ∙ ap pos scale) in
    rw bottom (positive_digits divisor (10 ^ number.places) (ten_pow_pos number.places) c.requires)

pub returns : goal.returns
returns c =
    let number = c.args.number in
    let divisor = c.args.divisor in
    let up = rw (c.from.ensures, c.places.ensures.value) at c.pow-up.ensures in
    let down = rw (c.from-2.ensures, c.places-2.ensures.value) at c.pow-down.ensures in
    let top = digits_in_code number (10 ^ divisor.places) c.digits.ensures.decimal (ten_pow_fits divisor.places c.places.ensures.decimal.most_places) (rw c.digits.ensures.value at c.from-3.ensures) (c.from-4.ensures ∙ ap pos up) in
    let bottom = digits_in_code divisor (10 ^ number.places) c.digits-2.ensures.decimal (ten_pow_fits number.places c.places-2.ensures.decimal.most_places) (rw c.digits-2.ensures.value at c.from-5.ensures) (c.from-6.ensures ∙ ap pos down) in
    over_is number divisor c.requires top bottom c.from_ratio.ensures
