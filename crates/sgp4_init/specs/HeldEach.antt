-- Enclosures of all constants of an element set.
use Rattle.exact.specs.Rational.{ℚ}
use Rattle.fixed_iv.specs.Place.{Place}
use Rattle.fixed_iv.specs.declared.enc.Enc.{Ghosts}
use Rattle.sgp4_model.specs.Angle.{IsPi}
use Rattle.sgp4_model.specs.Constants.{InitRecord, IsConsts, IsInitialised, kept_of}
use Rattle.sgp4_model.specs.OrbitRecords.{ConstRecord}
use Rattle.sgp4_model.specs.Records.{SetRecord}
use Rattle.sgp4_shape.specs.Covering.{CoversConsts}
use Rattle.sgp4_shape.specs.HeldConsts.{ConstReach, IsHeldConsts}
use Rattle.sgp4_shape.specs.declared.consts.Consts.{Consts}
use Rattle.sgp4_motion.specs.HeldMotion.{IsHeldMotion, reach_motion}
use Rattle.sgp4_motion.specs.Recovered.{TellsForm}
use Rattle.sgp4_motion.specs.declared.recovered.Recovered.{Recovered}
use Rattle.sgp4_init.specs.ReachConsts.{reach_consts}
use Rattle.sgp4_init.specs.TakenMotion.{IsTakenMotion}

-- each record of constants of the set is covered, for every pi of the bracket
abbrev pub CoversEachConsts : {A : Type 0} → Ghosts A → SetRecord → Consts A → Type 0
CoversEachConsts E set consts = (pi : ℚ) (k : ConstRecord) → IsPi pi → IsConsts set pi k → CoversConsts E.covers consts k

-- and its enclosures are as these numerals say
abbrev pub HoldsEachConsts : {A : Type 0} → Ghosts A → SetRecord → ConstReach → Consts A → Type 0
HoldsEachConsts E set r consts =
    (h : Place) (pi : ℚ) (k : ConstRecord) → IsPi pi → IsConsts set pi k → IsHeldConsts E.covers E.extent E.tells consts h k r

-- the enclosures hold the constants of a motion that is taken, in the form that is told
pub record HoldsInitial {A : Type 0} (E : Ghosts A) (set : SetRecord) (motion : Recovered A) (consts : Consts A) : Type 0 where
  pub gives : (h : Place) (pi : ℚ) (v : InitRecord) →
      IsPi pi → IsInitialised v set pi → IsTakenMotion v.motion → TellsForm motion v.motion → IsHeldMotion E motion h v.motion reach_motion →
      IsHeldConsts E.covers E.extent E.tells consts h (kept_of v) reach_consts
