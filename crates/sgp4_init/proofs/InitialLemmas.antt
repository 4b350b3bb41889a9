-- Constants that are held cover their record; and an accepted set has a high perigee.
use Rattle.std.proofs.Common.{◌≡◌, Bool, [], ◌∷◌, pos}
use Rattle.exact.specs.Rational.{ℚ, ratio, ◌*ℚ◌, ◌≤ℚ◌}
use Rattle.exact.proofs.RationalRing.{reads}
use Rattle.exact.specs.Interval.{Inside}
use Rattle.exact.proofs.Order.{gap, known, le_by, ◌⊕◌, ◌⊗◌}
use Rattle.fixed_iv.specs.Extent.{Extent}
use Rattle.fixed_iv.specs.Place.{Place}
use Rattle.sgp4_model.specs.Angle.{IsPi, IsSinCos}
use Rattle.sgp4_model.specs.Degrees.{radians}
use Rattle.sgp4_model.specs.MeanMotion.{MotionRecord, perigee_of}
use Rattle.sgp4_model.specs.Numerals.{whole}
use Rattle.sgp4_model.specs.OrbitRecords.{ConstRecord}
use Rattle.sgp4_model.proofs.FarQuarters.{pi_above_3}
use Rattle.sgp4_model.proofs.Pythagoras.{sine_pairs_are_bounded}
use Rattle.sgp4_shape.specs.declared.consts.Consts.{Consts}
use Rattle.sgp4_shape.specs.Covering.{CoversConsts}
use Rattle.sgp4_shape.specs.HeldConsts.{ConstReach, IsHeldConsts}
use Rattle.sgp4_motion.specs.HeldMotion.{reach_motion}
use Rattle.sgp4_motion.specs.declared.limits.TheConstants.{LEAST_PERIGEE_KM}
use Rattle.sgp4_init.specs.TakenMotion.{IsTakenMotion}
use Rattle.sgp4_init.proofs.CosineLemmas.{cosine_above, sine_within}

-- the motion of a set of at most 175 degrees, with its ranges and its perigee
pub taken_motion : (pi degrees : ℚ) (m : MotionRecord) → IsPi pi → m.i ≡ radians pi degrees → IsSinCos pi m.i m.si m.c → degrees ≤ℚ whole 175 → whole LEAST_PERIGEE_KM ≤ℚ perigee_of m →
    Inside reach_motion.i.range m.i → Inside reach_motion.e.range m.e → Inside reach_motion.a.range m.a → IsTakenMotion m
unfolding ratio
taken_motion pi degrees m is_pi angle pair most perigee of_i of_e of_a =
    let least : ratio (pos 0) 100 ≤ℚ m.i = of_i.low in
    let low : ratio (pos 0) 10 ≤ℚ m.e = of_e.low in
    let above = cosine_above pi m.i m.si m.c is_pi pair (le_by (m.i ∷ []) (gap least) (search reads depth 90) tt) within in
    record {
      perigee = perigee;
      least = le_by (m.e ∷ []) (gap low) (search reads depth 90) tt;
      most = of_e.high;
      axis = of_a.high;
      cosine = (sine_pairs_are_bounded pi m.i m.si m.c is_pi pair).1;
      above = above;
      bend = sine_within pi m.i m.si m.c is_pi pair above;
    }
  where
    within : m.i ≤ℚ ratio (pos 175) 180 *ℚ pi
    within = rw angle (le_by (pi ∷ degrees ∷ []) (known 1 180 ⊗ (gap most ⊗ (known 3 1 ⊕ gap (pi_above_3 is_pi)))) (search reads depth 90) tt)

pub covers_of_held : {A : Type 0} {covers : A → Place → ℚ → Type 0} {extent : A → Extent} {told : Bool} {consts : Consts A} {k : ConstRecord} {r : ConstReach} →
    ((h : Place) → IsHeldConsts covers extent told consts h k r) → CoversConsts covers consts k
covers_of_held held = record {
  i = λ h. (held h).i.covers;
  c = λ h. (held h).c.covers;
  si = λ h. (held h).si.covers;
  e = λ h. (held h).e.covers;
  w0 = λ h. (held h).w0.covers;
  o0 = λ h. (held h).o0.covers;
  m0 = λ h. (held h).m0.covers;
  bstar = λ h. (held h).bstar.covers;
  a = λ h. (held h).a.covers;
  eta = λ h. (held h).eta.covers;
  con41 = λ h. (held h).con41.covers;
  c5 = λ h. (held h).c5.covers;
  xmcof = λ h. (held h).xmcof.covers;
  xlcof = λ h. (held h).xlcof.covers;
  aycof = λ h. (held h).aycof.covers;
  delmo = λ h. (held h).delmo.covers;
  sin_m0 = λ h. (held h).sin_m0.covers;
  n0 = λ h. (held h).n0.covers;
  mdot = λ h. (held h).mdot.covers;
  wdot = λ h. (held h).wdot.covers;
  odot = λ h. (held h).odot.covers;
  c1 = λ h. (held h).c1.covers;
  c4 = λ h. (held h).c4.covers;
  omgcof = λ h. (held h).omgcof.covers;
  t2cof = λ h. (held h).t2cof.covers;
  d2 = λ h. (held h).d2.covers;
  nodecf = λ h. (held h).nodecf.covers;
  t3cof = λ h. (held h).t3cof.covers;
  d3 = λ h. (held h).d3.covers;
  t4cof = λ h. (held h).t4cof.covers;
  d4 = λ h. (held h).d4.covers;
  t5cof = λ h. (held h).t5cof.covers;
}
