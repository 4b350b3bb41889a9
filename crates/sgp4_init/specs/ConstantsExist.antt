-- A law of the constants of an element set, as a public function promises it.
use Rattle.exact.specs.Rational.{ℚ}
use Rattle.elements.specs.Elements.{ElementsRecord, IsElements, record_of_elements}
use Rattle.sgp4_model.specs.Angle.{IsPi}
use Rattle.sgp4_model.specs.Constants.{IsConsts}
use Rattle.sgp4_model.specs.OrbitRecords.{ConstRecord}
use Rattle.sgp4_motion.specs.Fate.{IsBetweenLimits, IsNearEarth, IsOrdinary}

-- the constants of a set that is taken exist, with each pi
abbrev pub ConstantsExist : Type 0
ConstantsExist =
    (set : ElementsRecord) (pi : ℚ) → IsElements set → IsPi pi → IsOrdinary (record_of_elements set) → IsBetweenLimits (record_of_elements set) → IsNearEarth (record_of_elements set) →
    (k : ConstRecord) × IsConsts (record_of_elements set) pi k
