use Rattle.std.proofs.Common.{arith, refl, pos, subst}
use Rattle.exact.specs.Rational.{ratio}
use Rattle.fixed_iv.specs.Extent.{width_of}
use Rattle.fixed_iv.specs.Holds.{Holds}
use Rattle.fixed_iv.proofs.HeldLemmas.{holds_difference, holds_product}
use Rattle.earth_frame.proofs.AngleLemmas.{pi_slim}
use Rattle.earth_frame.proofs.SlimLemmas.{slim_difference, slim_number, slim_product, slim_unit}
use Rattle.earth_frame.proofs.SunLemmas.{kept_tilt, tilt_goes_on, tilt_little, tilt_parts, tilt_rate}
use Rattle.earth_frame.proofs.sun.tilt.Goals as goal

pub returns-clause-holds : goal.returns-clause-holds
returns-clause-holds c x h p pi =
    let b = c.nanos.result in
    let start = rw (kept_tilt b c.nanos.ensures.in_years) at c.from_ratio-start.ensures in
    let step = holds_product c.mul.ensures h (c.from_ratio.ensures.holds (ratio (pos 2048) 81000000000) refl) in
    let both = holds_difference c.sub.ensures (start.holds (ratio (tilt_parts b) 155520000000000000000000) refl) step in
    rw (← c.nanos.ensures.value) (subst (Holds c.mul-2.result) (tilt_goes_on p b x) (holds_product c.mul-2.ensures (c.pi.ensures.holds p pi) both))

pub returns-clause-slim : goal.returns-clause-slim
returns-clause-slim c h =
    let b = c.nanos.result in
    let start = rw (kept_tilt b c.nanos.ensures.in_years) at c.from_ratio-start.ensures in
    let start_slim = slim_number (ratio (tilt_parts b) 155520000000000000000000) start (omega arith) (tilt_little b c.nanos.ensures.in_years) in
    let rate_slim = slim_number (ratio (pos 2048) 81000000000) c.from_ratio.ensures (omega arith) tilt_rate in
    let step_slim = slim_product 7116801 4000 1 c.mul.ensures (slim_unit h) rate_slim (omega arith) (omega arith) (omega arith) (omega arith) in
    slim_product 115188891460140 20980 4 c.mul-2.ensures (pi_slim (width_of c.args.t) c.pi.result c.pi.ensures.holds c.pi.ensures.width c.pi.ensures.bounded) (slim_difference c.sub.ensures start_slim step_slim (omega arith)) (omega arith) (omega arith) (omega arith) (omega arith)
