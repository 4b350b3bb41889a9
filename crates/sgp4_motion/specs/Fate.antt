-- Which element sets may be refused, and which may be accepted: the limits of near-Earth orbits as this program takes them.
use Rattle.std.specs.Prelude.{◌<◌, ◌+◌, ◌⊎◌, ◌↔◌, ◌^◌, ◌*◌, ℤ, ◌-ℤ◌, unsigned_abs}
use Rattle.exact.specs.Rational.{ℚ, abs_ℚ, ◌≤ℚ◌, ◌<ℚ◌}
use Rattle.sgp4_model.specs.Angle.{IsPi}
use Rattle.sgp4_model.specs.MeanMotion.{MotionRecord, IsMotionRecovered, IsFullMotion, IsSimpleMotion, period_of, perigee_of}
use Rattle.sgp4_model.specs.Numerals.{whole, decimal}
use Rattle.sgp4_model.specs.Records.{SetRecord}
use Rattle.sgp4_shape.specs.declared.fault.SatFault.{SatFault}
use Rattle.sgp4_shape.specs.declared.fault.SatFault.TheVariants.{Eccentric, Inclined, Drag, Deep, Low, Edge, Far}
use Rattle.sgp4_motion.specs.declared.limits.TheConstants.{LEAST_PERIGEE_KM}

-- the eccentricity is above 0.2
abbrev pub IsEccentric : SetRecord → Type 0
IsEccentric set = decimal 2 1 <ℚ set.ecc

-- the inclination is above 175 degrees
abbrev pub IsInclined : SetRecord → Type 0
IsInclined set = whole 175 <ℚ set.incl

-- the drag term is above 0.001 in size
abbrev pub IsDragged : SetRecord → Type 0
IsDragged set = decimal 1 3 <ℚ abs_ℚ set.bstar

-- none of these
pub record IsOrdinary (set : SetRecord) : Type 0 where
  pub not_eccentric : ¬ IsEccentric set
  pub not_inclined : ¬ IsInclined set
  pub not_dragged : ¬ IsDragged set

-- the mean motion is between 6.3 and 17 revolutions a day
pub record IsBetweenLimits (set : SetRecord) : Type 0 where
  pub above : decimal 63 1 <ℚ set.motion
  pub below : set.motion <ℚ whole 17

-- the instant, in nanoseconds from 2000-01-01T12:00:00 UTC, is more than 604,800 seconds from the epoch
abbrev pub IsAway : SetRecord → ℤ → Type 0
IsAway set instant = 604800 * 10 ^ 9 < unsigned_abs (instant -ℤ set.epoch)

-- one of the two instants is
abbrev pub IsFar : SetRecord → ℤ → ℤ → Type 0
IsFar set first last = IsAway set first ⊎ IsAway set last

-- some recovered motion of the set has a period of at least so many minutes
pub record HasPeriodFrom (minutes : ℚ) (set : SetRecord) : Type 0 where
  pub pi : ℚ
  pub motion : MotionRecord
  pub is_pi : IsPi pi
  pub recovered : IsMotionRecovered set pi motion
  pub at_least : minutes ≤ℚ period_of pi motion

-- some recovered motion of the set has a perigee of less than so many kilometres
pub record HasPerigeeBelow (km : ℚ) (set : SetRecord) : Type 0 where
  pub pi : ℚ
  pub motion : MotionRecord
  pub is_pi : IsPi pi
  pub recovered : IsMotionRecovered set pi motion
  pub below : perigee_of motion <ℚ km

-- some recovered motion of the set has a perigee from so many kilometres to so many
pub record HasPerigeeBetween (least most : ℚ) (set : SetRecord) : Type 0 where
  pub pi : ℚ
  pub motion : MotionRecord
  pub is_pi : IsPi pi
  pub recovered : IsMotionRecovered set pi motion
  pub at_least : least ≤ℚ perigee_of motion
  pub at_most : perigee_of motion ≤ℚ most

-- each recovered motion of the set has a period below 225 minutes and a perigee of at least the least accepted one
pub record IsNearEarth (set : SetRecord) : Type 0 where
  pub period : (pi : ℚ) (motion : MotionRecord) → IsPi pi → IsMotionRecovered set pi motion → period_of pi motion <ℚ whole 225
  pub perigee : (pi : ℚ) (motion : MotionRecord) → IsPi pi → IsMotionRecovered set pi motion → whole LEAST_PERIGEE_KM ≤ℚ perigee_of motion

-- each recovered motion of the set is simple
abbrev pub IsSimpleSet : SetRecord → Type 0
IsSimpleSet set = (pi : ℚ) (motion : MotionRecord) → IsPi pi → IsMotionRecovered set pi motion → IsSimpleMotion motion

-- each one is full
abbrev pub IsFullSet : SetRecord → Type 0
IsFullSet set = (pi : ℚ) (motion : MotionRecord) → IsPi pi → IsMotionRecovered set pi motion → IsFullMotion motion

-- either each one is simple, or each one is full
abbrev pub IsOfOneForm : SetRecord → Type 0
IsOfOneForm set = IsSimpleSet set ⊎ IsFullSet set

-- the set is ordinary, and at most 6.3 revolutions a day are given, or some period is of at least 224.999 minutes
pub record MayBeDeep (set : SetRecord) : Type 0 where
  pub ordinary : IsOrdinary set
  pub slow : (set.motion ≤ℚ decimal 63 1) ⊎ HasPeriodFrom (decimal 224999 3) set

-- the least accepted perigee and a metre, in kilometres
abbrev pub low_perigee_km : ℚ
low_perigee_km = decimal (LEAST_PERIGEE_KM * 1000 + 1) 3

-- the set is ordinary, and at least 17 revolutions a day are given, or some perigee is below the least one and a metre
pub record MayBeLow (set : SetRecord) : Type 0 where
  pub ordinary : IsOrdinary set
  pub fast : (whole 17 ≤ℚ set.motion) ⊎ HasPerigeeBelow low_perigee_km set

-- the set is ordinary, and some perigee is from 219.999 to 220.001 km: next to 220 km, where the form changes
pub record MayBeEdge (set : SetRecord) : Type 0 where
  pub ordinary : IsOrdinary set
  pub near : HasPerigeeBetween (decimal 219999 3) (decimal 220001 3) set

-- the set, at whatever instants, may be refused for this fault
abbrev pub MayRefuseSet : SetRecord → SatFault → Type 0
MayRefuseSet set Eccentric = IsEccentric set
MayRefuseSet set Inclined = ¬ IsEccentric set × IsInclined set
MayRefuseSet set Drag = (¬ IsEccentric set × ¬ IsInclined set) × IsDragged set
MayRefuseSet set Deep = MayBeDeep set
MayRefuseSet set Low = MayBeLow set
MayRefuseSet set Edge = MayBeEdge set
MayRefuseSet set Far = ⊥

-- what is told exactly, where `refuses` says for which fault the set is refused: the first three faults, and that an instant
-- is no cause
pub record IsRefusedExactly (set : SetRecord) (refuses : SatFault → Type 0) : Type 0 where
  pub eccentric : refuses Eccentric ↔ IsEccentric set
  pub inclined : refuses Inclined ↔ (¬ IsEccentric set × IsInclined set)
  pub drag : refuses Drag ↔ ((¬ IsEccentric set × ¬ IsInclined set) × IsDragged set)
  pub never_far : ¬ refuses Far

-- the set may be refused for this fault from the first instant to the last
abbrev pub MayRefuse : SetRecord → ℤ → ℤ → SatFault → Type 0
MayRefuse set first last Eccentric = MayRefuseSet set Eccentric
MayRefuse set first last Inclined = MayRefuseSet set Inclined
MayRefuse set first last Drag = MayRefuseSet set Drag
MayRefuse set first last Deep = MayRefuseSet set Deep
MayRefuse set first last Low = MayRefuseSet set Low
MayRefuse set first last Edge = MayRefuseSet set Edge
MayRefuse set first last Far = (((IsOrdinary set × IsBetweenLimits set) × IsNearEarth set) × IsOfOneForm set) × IsFar set first last

-- the set may be accepted from the first instant to the last
pub record MayAccept (set : SetRecord) (first last : ℤ) : Type 0 where
  pub ordinary : IsOrdinary set
  pub between : IsBetweenLimits set
  pub near_earth : IsNearEarth set
  pub of_one_form : IsOfOneForm set
  pub not_far : ¬ IsFar set first last
