use Rattle.std.proofs.Common.{refl, subst}
use Rattle.sgp4_model.specs.Angle.{IsSinCos}
use Rattle.sgp4_model.proofs.OwnPair.{sine_and_cosine_exist}
use Rattle.fixed_iv.proofs.HeldLemmas.{holds_difference, holds_whole, holds_negative, holds_product, holds_sum}
use Rattle.lin_form.proofs.BandLemmas.{last_place, slow_size, swept_size}
use Rattle.lin_form.proofs.BendLemmas.{pairs_follow_their_bend}
use Rattle.lin_form.proofs.LinLemmas.{cosine_on, off_near, sine_on}
use Rattle.lin_form.proofs.lin.LinEnc.sincos.Goals as goal

pub returns-then-is_zero-clause-covers : goal.returns-then-is_zero-clause-covers
returns-then-is_zero-clause-covers c h p x s k pi pair covered =
    let held = c.sincos.ensures.holds p x s k pi covered.ranged pair in
    (c.level.ensures h s held.0, c.level-then-is_zero.ensures h k held.1)

pub returns-clause-covers : goal.returns-clause-covers
returns-clause-covers c h p x t a pi pair covered =
    let held = c.sincos-2.ensures.holds p x t a pi (holds_whole (record { low = refl; high = refl }) x) pair in
    let own = sine_and_cosine_exist p covered.middle pi in
    let s = own.0 in
    let k = own.1.0 in
    let m = covered.slope in
    let middle = c.sincos-3.ensures.holds p covered.middle s k pi covered.centred own.1.1 in
    let slow = slow_size m (c.is_slow.ensures c.if-not-is_slow.false last_place m covered.sloped) in
    let law = pairs_follow_their_bend p covered.middle _ _ s k t a pi (swept_size h m) slow own.1.1
    (subst (λ y. IsSinCos p y t a) covered.is pair) in
    let half = c.halved-half.ensures _ (c.square.ensures m covered.sloped) in
    let sine_bend = c.bent.ensures h _ (holds_product c.mul.ensures half middle.0) in
    let cosine_bend = c.bent-2.ensures h _ (holds_product c.mul-3.ensures half middle.1) in
    let sine_bent = holds_difference c.sub.ensures middle.0 sine_bend in
    let cosine_bent = holds_difference c.sub-2.ensures middle.1 cosine_bend in
    let left = c.turn_spread-spread.ensures m in (
      c.along.ensures h t _ _ held.0
          (holds_sum c.add.ensures sine_bent (left _ covered.sloped half (off_near law.0)))
          (holds_product c.mul-2.ensures covered.sloped middle.1) (sine_on h m s k t),
      c.along-2.ensures h a _ _ held.1
          (holds_sum c.add-2.ensures cosine_bent (left _ covered.sloped half (off_near law.1)))
          (holds_negative c.neg.ensures (holds_product c.mul-4.ensures covered.sloped middle.0)) (cosine_on h m s k a),
    )
