use Rattle.std.proofs.Common.{arith}
use Rattle.sgp4_motion.proofs.GivenLemmas.{digits_in_code, positive_in_code, scale_in_code, scaled_is}
use Rattle.sgp4_motion.proofs.given.scaled.Goals as goal

pub from_ratio-requires : goal.from_ratio-requires
from_ratio-requires c =
    let scale = rw (c.from.ensures, c.places.ensures.value) at c.pow-scale.ensures in
    let bottom = scale_in_code c.args.number c.args.den c.pow-scale.result c.places.ensures.decimal (omega (arith, c.ranges.den.fits)) c.from-4.ensures c.from-5.ensures scale in
    rw bottom (positive_in_code c.args.den c.args.number.places c.requires)

pub returns : goal.returns
returns c =
    let scale = rw (c.from.ensures, c.places.ensures.value) at c.pow-scale.ensures in
    let bottom = scale_in_code c.args.number c.args.den c.pow-scale.result c.places.ensures.decimal (omega (arith, c.ranges.den.fits)) c.from-4.ensures c.from-5.ensures scale in
    let top = digits_in_code c.args.number c.args.num c.digits.ensures.decimal (omega (arith, c.ranges.num.fits)) (rw c.digits.ensures.value at c.from-2.ensures) c.from-3.ensures in
    scaled_is c.args.number c.args.num c.args.den c.requires top bottom c.from_ratio.ensures
