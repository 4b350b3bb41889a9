use Rattle.std.proofs.Common.{arith, pos, ◌<ℤ◌, ◌≤ℤ◌}
use Rattle.std.proofs.lemmas.Int.{ints, to_z-of_z}
use Rattle.fixed_iv.proofs.EndLemmas.{kept_high, kept_low}
use Rattle.lin_form.proofs.BandLemmas.{positive_held}
use Rattle.lin_form.proofs.PartLemmas.{above_0, above_falling, above_low, above_rising, over_test, under_test}
use Rattle.lin_form.proofs.lin.Lin.parts_above_0.Goals as goal

pub returns-then-self-gt0-clause-above : goal.returns-then-self-gt0-clause-above
returns-then-self-gt0-clause-above c h x k among = positive_held (grind (arith, to_z-of_z, c.if-self-gt0.true)) k.ranged

pub returns-then-low-le0-clause-above : goal.returns-then-low-le0-clause-above
returns-then-low-le0-clause-above c h x k among =
    let centre = c.is_bounded.ensures.0 c.if-not-is_bounded.false in
    let slope = c.is_bounded-else-not-is_bounded.ensures.0 c.if-not-is_bounded-2.false in
    above_0 h x k.middle k.slope k.is
    (above_low h c.args.parts c.parts_before_0.result _ _ c.args.self.centre.lo c.args.self.slope.hi (under_test _ _ (rw (kept_low c.args.self.centre) at c.if-low-le0.true)) (over_test _ _ (rw (kept_low c.args.self.centre, kept_high c.args.self.slope) at c.if-low-slope.false))
    ((rw (kept_low c.args.self.centre, kept_high c.args.self.slope) at c.parts_before_0.ensures.above) among.some) among (k.centred.low centre.low) (k.sloped.high slope.high))

pub returns-then-slope-ge0-clause-above : goal.returns-then-slope-ge0-clause-above
returns-then-slope-ge0-clause-above c h x k among =
    let centre = c.is_bounded.ensures.0 c.if-not-is_bounded.false in
    let slope = c.is_bounded-else-not-is_bounded.ensures.0 c.if-not-is_bounded-2.false in
    above_0 h x k.middle k.slope k.is
    (above_rising h _ _ c.args.self.centre.lo c.args.self.slope.lo c.args.self.slope.hi (over_test _ _ (rw (kept_low c.args.self.centre) at c.if-low-le0.false)) (over_test _ _ (rw (kept_low c.args.self.centre, kept_high c.args.self.slope) at c.if-low-slope.false)) (under_test _ _ (rw (kept_low c.args.self.slope) at c.if-slope-ge0.true))
    (k.centred.low centre.low) (k.sloped.low slope.low) (k.sloped.high slope.high))

pub returns-clause-above : goal.returns-clause-above
returns-clause-above c h x k among =
    let below : c.args.self.slope.lo <ℤ pos 0 = over_test (pos 0) c.args.self.slope.lo (rw (kept_low c.args.self.slope) at c.if-slope-ge0.false) in
    let falls : c.args.self.slope.lo ≤ℤ pos 0 = omega (arith, ints, below) in
    let centre = c.is_bounded.ensures.0 c.if-not-is_bounded.false in
    let slope = c.is_bounded-else-not-is_bounded.ensures.0 c.if-not-is_bounded-2.false in
    above_0 h x k.middle k.slope k.is
    (above_falling h c.args.parts c.parts_before_0-2.result _ _ c.args.self.centre.lo c.args.self.slope.lo c.args.self.slope.hi (over_test _ _ (rw (kept_low c.args.self.centre) at c.if-low-le0.false)) (over_test _ _ (rw (kept_low c.args.self.centre, kept_high c.args.self.slope) at c.if-low-slope.false))
    falls ((rw (kept_low c.args.self.centre, kept_low c.args.self.slope) at c.parts_before_0-2.ensures.above) among.some) among (k.centred.low centre.low) (k.sloped.low slope.low) (k.sloped.high slope.high))
