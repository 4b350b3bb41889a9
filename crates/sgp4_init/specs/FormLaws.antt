-- Laws of the form of the constants of an element set, as public functions promise them.
use Rattle.std.specs.Prelude.{◌↔◌, ◌⊎◌}
use Rattle.exact.specs.Rational.{ℚ}
use Rattle.sgp4_model.specs.Angle.{IsPi}
use Rattle.sgp4_model.specs.Constants.{IsConsts}
use Rattle.sgp4_model.specs.MeanMotion.{IsSimpleMotion}
use Rattle.sgp4_model.specs.OrbitRecords.{ConstRecord}
use Rattle.sgp4_model.specs.Records.{SetRecord}
use Rattle.sgp4_model.specs.Simple.{IsSimple}
use Rattle.sgp4_motion.specs.Fate.{IsNearEarth, IsOfOneForm}

-- constants are simple exactly where their recovered motion is
abbrev pub ConstantsHaveTheFormOfTheirMotion : Type 0
ConstantsHaveTheFormOfTheirMotion =
    (set : SetRecord) (pi : ℚ) (k : ConstRecord) (consts : IsConsts set pi k) → IsSimple k ↔ IsSimpleMotion consts.quantities.motion

-- all constants of the set are simple, with whatever pi
abbrev pub HasSimpleConstants : SetRecord → Type 0
HasSimpleConstants set = (pi : ℚ) (k : ConstRecord) → IsPi pi → IsConsts set pi k → IsSimple k

-- none are
abbrev pub HasNoSimpleConstants : SetRecord → Type 0
HasNoSimpleConstants set = (pi : ℚ) (k : ConstRecord) → IsPi pi → IsConsts set pi k → ¬ IsSimple k

-- of a set of one form all constants are simple, or none are
abbrev pub ConstantsAreOfOneForm : Type 0
ConstantsAreOfOneForm = (set : SetRecord) → IsOfOneForm set → HasSimpleConstants set ⊎ HasNoSimpleConstants set

-- with a least accepted perigee of 300 km, no constants of a set that is near the Earth are simple
abbrev pub AcceptedConstantsAreNotSimple : Type 0
AcceptedConstantsAreNotSimple = (set : SetRecord) → IsNearEarth set → HasNoSimpleConstants set
