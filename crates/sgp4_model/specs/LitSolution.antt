-- The solutions of an element set and the Sun at an instant, and the track of sunlight.
use Rattle.std.specs.Prelude.{◌≡◌, ℕ, ℤ}
use Rattle.exact.specs.Rational.{ℚ}
use Rattle.sgp4_model.specs.Angle.{IsPi}
use Rattle.sgp4_model.specs.Certified.{TrackRecord}
use Rattle.sgp4_model.specs.Constants.{IsConsts}
use Rattle.sgp4_model.specs.EachSolution.{OfEach}
use Rattle.sgp4_model.specs.EpochTime.{minutes_since_epoch}
use Rattle.sgp4_model.specs.Light.{GrazesShadow, IsDark, IsSunlit, ShadowRecord, shadow_of}
use Rattle.sgp4_model.specs.MeanElements.{IsMean}
use Rattle.sgp4_model.specs.OrbitRecords.{ConstRecord, MeanRecord}
use Rattle.sgp4_model.specs.Position.{IsPosition}
use Rattle.sgp4_model.specs.Records.{SetRecord}
use Rattle.sgp4_model.specs.Sinking.{IsSinking}
use Rattle.sgp4_model.specs.Sun.{IsSun}
use Rattle.sgp4_model.specs.Time.{instant_of_place}
use Rattle.sgp4_model.specs.Vector.{Vector}

-- The numbers are those of a lit solution of the set at an instant in seconds: of its position and the Sun's direction there.
-- One pi serves throughout.
pub record IsLitSolution (set : SetRecord) (at : ℚ) (v : ShadowRecord) : Type 0 where
  pub pi : ℚ
  pub constants : ConstRecord
  pub mean : MeanRecord
  pub root : ℚ
  pub position : Vector
  pub sun : Vector
  pub is_pi : IsPi pi
  pub are_constants : IsConsts set pi constants
  pub is_mean : IsMean constants pi (minutes_since_epoch set at) mean
  pub is_position : IsPosition constants mean pi root position
  pub is_sun : IsSun pi at sun
  pub numbers_are : v ≡ shadow_of position sun

-- at a place of the window that starts so many nanoseconds from 2000-01-01T12:00:00 UTC there is a lit solution, and a fact
-- holds of each one
abbrev pub EachLitSolution : SetRecord → ℤ → (ShadowRecord → Type 0) → ℚ → Type 0
EachLitSolution set start holds place = OfEach (IsLitSolution set (instant_of_place start place)) holds

-- the track of sunlight: at a place of the window each lit solution is sunlit, is dark, or grazes; or some record of the set
-- sinks there
abbrev pub lit_track : SetRecord → ℤ → ℕ → TrackRecord
lit_track set start ticks = record {
  ticks = ticks;
  yes = EachLitSolution set start IsSunlit;
  no = EachLitSolution set start IsDark;
  grazes = EachLitSolution set start GrazesShadow;
  sinks = λ place. IsSinking set (instant_of_place start place);
}
