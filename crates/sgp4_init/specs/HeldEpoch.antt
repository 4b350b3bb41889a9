-- What numerals say of the enclosed angles of an element set at its epoch.
use Rattle.exact.specs.Rational.{ℚ}
use Rattle.fixed_iv.specs.Follows.{Encloses}
use Rattle.fixed_iv.specs.Place.{Place}
use Rattle.fixed_iv.specs.Reach.{turned, ◌+ᴿ◌}
use Rattle.fixed_iv.specs.declared.enc.Enc.{Ghosts}
use Rattle.sgp4_model.specs.Angle.{IsPi}
use Rattle.sgp4_model.specs.EpochAngles.{EpochRecord, IsAtEpoch}
use Rattle.sgp4_model.specs.Records.{SetRecord}
use Rattle.sgp4_init.specs.Numerals.{given_angle, given_drag}
use Rattle.sgp4_init.specs.declared.epoch.Epoch.{Epoch}

-- each angle, each number of a pair that is used again and the drag term is covered at the place, and its enclosure is as
-- numerals say
pub record IsHeldEpoch {A : Type 0} (E : Ghosts A) (epoch : Epoch A) (h : Place) (z : EpochRecord) : Type 0 where
  pub o0 : Encloses E epoch.o0 h z.o0 given_angle
  pub w0 : Encloses E epoch.w0 h z.w0 given_angle
  pub m0 : Encloses E epoch.m0 h z.m0 given_angle
  pub cos_w0 : Encloses E epoch.cos_w0 h z.of_w0.cosine (turned given_angle)
  pub cos_twice_w0 : Encloses E epoch.cos_twice_w0 h z.of_twice_w0.cosine (turned (given_angle +ᴿ given_angle))
  pub sin_m0 : Encloses E epoch.sin_m0 h z.of_m0.sine (turned given_angle)
  pub cos_m0 : Encloses E epoch.cos_m0 h z.of_m0.cosine (turned given_angle)
  pub bstar : Encloses E epoch.bstar h z.bstar given_drag

-- the enclosures hold what the set gives at its epoch, for every pi of the bracket
pub record HoldsEpoch {A : Type 0} (E : Ghosts A) (set : SetRecord) (epoch : Epoch A) : Type 0 where
  pub gives : (h : Place) (pi : ℚ) (z : EpochRecord) → IsPi pi → IsAtEpoch set pi z → IsHeldEpoch E epoch h z
