use Rattle.std.proofs.Common.{refl, pos, arith}
use Rattle.exact.specs.Rational.{ratio}
use Rattle.fixed_iv.proofs.HeldLemmas.{holds_product, holds_sum}
use Rattle.earth_frame.proofs.CenturyLemmas.{centuries_are, little_base, little_rate}
use Rattle.earth_frame.proofs.OffsetLemmas.{kept_base}
use Rattle.earth_frame.proofs.SlimLemmas.{slim_number, slim_product, slim_sum, slim_unit}
use Rattle.earth_frame.proofs.sidereal_time.centuries.Goals as goal

pub returns-clause-holds : goal.returns-clause-holds
returns-clause-holds c x h =
    let step = holds_product c.mul.ensures h (c.from_ratio-2.ensures.holds (ratio (pos 512) 1643625) refl) in
    let both = holds_sum c.add.ensures ((rw (kept_base c.args.base c.requires) at c.from_ratio.ensures).holds (ratio c.args.base 3155760000000000000) refl) step in
    rw (centuries_are c.args.base x) both

pub returns-clause-slim : goal.returns-clause-slim
returns-clause-slim c h =
    let base = slim_number (ratio c.args.base 3155760000000000000) (rw (kept_base c.args.base c.requires) at c.from_ratio.ensures) (omega arith) (little_base c.args.base c.requires) in
    let rate = slim_number (ratio (pos 512) 1643625) c.from_ratio-2.ensures (omega arith) little_rate in
    let step = slim_product 88000000000 4000 1 c.mul.ensures (slim_unit h) rate (omega arith) (omega arith) (omega arith) (omega arith) in
    slim_sum c.add.ensures base step (omega arith)
