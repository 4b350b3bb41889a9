-- What enclosures of a recovered motion cover.
use Rattle.std.specs.Prelude.{◌≡◌, false, true}
use Rattle.exact.specs.Rational.{ℚ, ◌*ℚ◌}
use Rattle.fixed_iv.specs.declared.enc.Enc.{Ghosts}
use Rattle.sgp4_model.specs.Angle.{IsPi}
use Rattle.sgp4_model.specs.MeanMotion.{IsFullMotion, IsMotionRecovered, IsSimpleMotion, MotionRecord}
use Rattle.sgp4_model.specs.Records.{SetRecord}
use Rattle.sgp4_shape.specs.Covering.{Throughout, unit_minutes}
use Rattle.sgp4_motion.specs.declared.recovered.Recovered.{Recovered}

-- each quantity is covered at every place, the mean motion in radians per 16,384 minutes
pub record CoversMotion {A : Type 0} (E : Ghosts A) (motion : Recovered A) (m : MotionRecord) : Type 0 where
  pub i : Throughout E.covers motion.i m.i
  pub c : Throughout E.covers motion.c m.c
  pub si : Throughout E.covers motion.si m.si
  pub e : Throughout E.covers motion.e m.e
  pub n0 : Throughout E.covers motion.n0 (unit_minutes 1 *ℚ m.n0)
  pub a : Throughout E.covers motion.a m.a
  pub bb : Throughout E.covers motion.bb m.bb
  pub b0 : Throughout E.covers motion.b0 m.b0
  pub p : Throughout E.covers motion.p m.p
  pub rp : Throughout E.covers motion.rp m.rp
  pub con41 : Throughout E.covers motion.con41 m.con41
  pub con42 : Throughout E.covers motion.con42 m.con42

-- the form that is told is that of the recovered motion
pub record TellsForm {A : Type 0} (motion : Recovered A) (m : MotionRecord) : Type 0 where
  pub simple : motion.simple ≡ true → IsSimpleMotion m
  pub full : motion.simple ≡ false → IsFullMotion m

-- it is that of each recovered motion of a set
abbrev pub TellsEachForm : {A : Type 0} → SetRecord → Recovered A → Type 0
TellsEachForm set motion = (pi : ℚ) (m : MotionRecord) → IsPi pi → IsMotionRecovered set pi m → TellsForm motion m
