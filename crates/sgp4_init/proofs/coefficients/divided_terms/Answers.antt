use Rattle.std.proofs.Common.{pos}
use Rattle.exact.specs.Rational.{◌≤ℚ◌, ◌<ℚ◌}
use Rattle.exact.specs.Interval.{between}
use Rattle.decimals.specs.OrderLaws.{lt_of_not_le}
use Rattle.fixed_iv.proofs.Held.{claim_held, held_at}
use Rattle.fixed_iv.proofs.Promises.{product}
use Rattle.sgp4_model.specs.Drag.{near_circle}
use Rattle.sgp4_motion.proofs.FaultLemmas.{denies, le_of_not_lt, shows}
use Rattle.sgp4_init.proofs.CoefficientLemmas.{axis_divides, eccentric_inside, held_or_zero, held_zero, omgcof_else, omgcof_is, omgcof_simple, xmcof_is}
use Rattle.sgp4_init.proofs.coefficients.divided_terms.Goals as goal

pub perigee_drag_factor-of_perigee-requires : goal.perigee_drag_factor-of_perigee-requires
perigee_drag_factor-of_perigee-requires g c = rw c.bstar.ensures.value (le_of_not_lt c.requires)

pub drag_over_eccentricity-of_anomaly-requires-clause-drag : goal.drag_over_eccentricity-of_anomaly-requires-clause-drag
drag_over_eccentricity-of_anomaly-requires-clause-drag g c = rw c.bstar-2.ensures.value (le_of_not_lt c.requires)

pub drag_over_eccentricity-of_anomaly-requires-clause-eccentric : goal.drag_over_eccentricity-of_anomaly-requires-clause-eccentric
drag_over_eccentricity-of_anomaly-requires-clause-eccentric g c = rw c.of_scaled.ensures.value at (lt_of_not_le _ _ (denies c.is_at_most.ensures c.if-is_at_most.false))

pub returns-then-motion : goal.returns-then-motion
returns-then-motion g c = record {
  gives = λ h z m d k f t r s case motion density cosine.
      let simple = case.form.simple c.if-motion.true in (
        held_zero _ (omgcof_simple z m d k f t case.terms case.remaining simple) (c.number.ensures h),
        held_zero _ (case.remaining.xmcof_is_simple simple) (c.number-then-motion.ensures h),
      );
}

pub returns-then-is_at_most : goal.returns-then-is_at_most
returns-then-is_at_most g c = record {
  gives = λ h z m d k f t r s case motion density cosine.
      let below = rw (c.ecc-ecc.ensures.value, c.of_scaled.ensures.value) at (shows c.is_at_most.ensures c.if-is_at_most.true) in
      let small : m.e ≤ℚ near_circle = rw case.ecc below in (
        held_zero _ (omgcof_else z m d k f t case.terms case.remaining (case.form.full c.if-motion.false) case.of_perigee small) (c.number-then-is_at_most.ensures h),
        held_zero _ (case.remaining.xmcof_is_else small) (c.number-then-is_at_most-2.ensures h),
      );
}

pub returns : goal.returns
returns g c = record {
  gives = λ h z m d k f t r s case motion density cosine.
      let full = case.form.full c.if-motion.false in
      let above = rw (c.ecc-ecc.ensures.value, c.of_scaled.ensures.value) at (lt_of_not_le _ _ (denies c.is_at_most.ensures c.if-is_at_most.false)) in
      let large : near_circle <ℚ m.e = rw case.ecc above in
      let e = claim_held (between (pos 1) 10000 (pos 2000) 10000) motion.e (eccentric_inside case.ecc above case.taken.most) in
      let perigee = rw c.bstar.ensures.value at (c.perigee_drag_factor-of_perigee.ensures h) in
      let anomaly = rw (c.bstar-2.ensures.value, c.ecc-ecc.ensures.value) at (c.drag_over_eccentricity-of_anomaly.ensures h) in
      let divides = case.of_perigee.e_divides large in
      let along = c.along_perigee-along.ensures.gives density.coef density.xi motion.n0 motion.si in
      let omgcof = product g.met.E.Enc.contained c.times.ensures (c.perigee_drag.ensures.gives divides along perigee e) cosine in
      let share = c.axis_share.ensures.gives (axis_divides z m d k f t case.terms case.remaining case.recovers) motion.a in
      let xmcof = c.anomaly_drag.ensures.gives divides share density.xi anomaly e in (
        held_or_zero (held_at (omgcof_is z m d k f t case.terms case.remaining full _ case.bstar case.of_perigee large) omgcof),
        held_or_zero (held_at (xmcof_is z m d k f t case.terms case.remaining full _ _ case.bstar case.ecc large case.recovers) xmcof),
      );
}
