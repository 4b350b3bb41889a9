-- What a craft keeps of an element set, and what bounds of its position hold.
use Rattle.std.specs.Prelude.{◌≤◌, ℕ, true}
use Rattle.exact.specs.Rational.{ℚ}
use Rattle.elements.specs.Elements.{ElementsRecord, record_of_elements}
use Rattle.enc_plain.specs.declared.plain.Plain.{Plain}
use Rattle.fixed_iv.specs.Extent.{Extent, extent_of, width_of}
use Rattle.fixed_iv.specs.Holds.{Holds, IsBounded}
use Rattle.fixed_iv.specs.Place.{Place}
use Rattle.fixed_iv.specs.declared.enc.Enc.{Ghosts}
use Rattle.fixed_iv.specs.declared.iv.Iv.{Iv}
use Rattle.fixed_iv.specs.declared.vec3.Vec3.{Vec3}
use Rattle.sgp4_init.specs.ReachConsts.{reach_consts}
use Rattle.sgp4_model.specs.Angle.{IsPi}
use Rattle.sgp4_model.specs.Constants.{IsConsts}
use Rattle.sgp4_model.specs.OrbitRecords.{ConstRecord}
use Rattle.sgp4_model.specs.PositionAt.{IsPositionAt}
use Rattle.sgp4_model.specs.Records.{SetRecord}
use Rattle.sgp4_model.specs.Vector.{Vector}
use Rattle.sgp4_motion.specs.Fate.{IsBetweenLimits, IsNearEarth, IsOfOneForm, IsOrdinary}
use Rattle.sgp4_shape.specs.Covering.{CoversConsts}
use Rattle.sgp4_shape.specs.HeldConsts.{IsHeldConsts}
use Rattle.sgp4_shape.specs.declared.consts.Consts.{Consts}

-- a plain enclosure covers what its interval holds, at each place of the cell, and tells its width
abbrev pub plain_covers : Plain → Place → ℚ → Type 0
plain_covers a h x = Holds a.iv x

abbrev pub plain_extent : Plain → Extent
plain_extent a = extent_of a.iv

-- the two as one record
abbrev pub plain_enc : Ghosts Plain
plain_enc = record { covers = plain_covers; tells = true; extent = plain_extent }

-- the enclosures cover the constants of the set, with each pi
abbrev pub EncloseConsts : ElementsRecord → Consts Plain → Type 0
EncloseConsts set consts = (pi : ℚ) (k : ConstRecord) → IsPi pi → IsConsts (record_of_elements set) pi k → CoversConsts plain_covers consts k

-- they cover them, and are as narrow as the numerals of the constants say
abbrev pub HoldConsts : ElementsRecord → Consts Plain → Type 0
HoldConsts set consts = (h : Place) (pi : ℚ) (k : ConstRecord) → IsPi pi → IsConsts (record_of_elements set) pi k → IsHeldConsts plain_covers plain_extent true consts h k reach_consts

-- a set that is accepted at whatever instants, with enclosures of its constants
pub record IsCraft (set : ElementsRecord) (consts : Consts Plain) : Type 0 where
  pub enclosed : EncloseConsts set consts
  pub held : HoldConsts set consts
  pub ordinary : IsOrdinary (record_of_elements set)
  pub limits : IsBetweenLimits (record_of_elements set)
  pub near_earth : IsNearEarth (record_of_elements set)
  pub of_one_form : IsOfOneForm (record_of_elements set)

-- each interval holds the coordinate
pub record HoldsVector (v : Vec3 Iv) (r : Vector) : Type 0 where
  pub x : Holds v.x r.x
  pub y : Holds v.y r.y
  pub z : Holds v.z r.z

-- they hold each position of the set at an instant
abbrev pub HoldsEachPosition : SetRecord → ℚ → Vec3 Iv → Type 0
HoldsEachPosition set at v = (r : Vector) → IsPositionAt set at r → HoldsVector v r

-- each interval is bounded
pub record IsBoundedVector (v : Vec3 Iv) : Type 0 where
  pub x : IsBounded v.x
  pub y : IsBounded v.y
  pub z : IsBounded v.z

-- each interval is at most so many units of 2^-48 wide
pub record IsNarrowVector (most : ℕ) (v : Vec3 Iv) : Type 0 where
  pub x : width_of v.x ≤ most
  pub y : width_of v.y ≤ most
  pub z : width_of v.z ≤ most
