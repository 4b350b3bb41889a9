use Rattle.std.proofs.Common.{refl, pos, arith}
use Rattle.exact.specs.Rational.{ratio}
use Rattle.fixed_iv.proofs.HeldLemmas.{holds_difference, holds_product, holds_sum}
use Rattle.earth_frame.proofs.OffsetLemmas.{kept_base}
use Rattle.earth_frame.proofs.SlowLemmas.{bend_rate, slow_less_turns, twist_rate}
use Rattle.earth_frame.proofs.SlimLemmas.{slim_difference, slim_number, slim_product, slim_sum, slim_turn}
use Rattle.earth_frame.proofs.sidereal_time.slow_half_turns.Goals as goal

pub returns-clause-holds : goal.returns-clause-holds
returns-clause-holds c x h =
    let kept = kept_base c.args.base c.requires in
    let time = rw kept at (c.centuries-centuries.ensures.holds x h) in
    let square = holds_product c.mul-square.ensures time time in
    let bend = holds_product c.mul-bend.ensures square (c.from_ratio.ensures.holds (ratio (pos 93104) 43200000000) refl) in
    let twist = holds_product c.mul-twist.ensures (holds_product c.mul.ensures square time) (c.from_ratio-2.ensures.holds (ratio (pos 62) 432000000000) refl) in
    let start = rw kept at c.start_half_turns.ensures.holds in
    slow_less_turns _ _ start (holds_difference c.sub.ensures (holds_sum c.add.ensures start.holds bend) twist)

pub returns-clause-slim : goal.returns-clause-slim
returns-clause-slim c h =
    let time = c.centuries-centuries.ensures.slim h in
    let square = slim_product 91734000000000 8851 2 c.mul-square.ensures time time (omega arith) (omega arith) (omega arith) (omega arith) in
    let bend = slim_product 197730000 2652 1 c.mul-bend.ensures square (slim_number (ratio (pos 93104) 43200000000) c.from_ratio.ensures (omega arith) bend_rate) (omega arith) (omega arith) (omega arith) (omega arith) in
    let cube = slim_product 52371000000000 9009 2 c.mul.ensures square time (omega arith) (omega arith) (omega arith) (omega arith) in
    let twist = slim_product 7517 2373 1 c.mul-twist.ensures cube (slim_number (ratio (pos 62) 432000000000) c.from_ratio-2.ensures (omega arith) twist_rate) (omega arith) (omega arith) (omega arith) (omega arith) in
    slim_difference c.sub.ensures (slim_sum c.add.ensures (slim_turn c.start_half_turns.ensures.within) bend (omega arith)) twist (omega arith)
