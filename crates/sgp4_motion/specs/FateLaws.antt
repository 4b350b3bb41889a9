-- Laws of what may be refused and accepted, as public functions promise them.
use Rattle.std.specs.Prelude.{◌≡◌, ◌⊎◌, ℤ}
use Rattle.sgp4_model.specs.Numerals.{decimal}
use Rattle.sgp4_model.specs.Records.{SetRecord}
use Rattle.sgp4_shape.specs.declared.fault.SatFault.{SatFault}
use Rattle.sgp4_shape.specs.declared.fault.SatFault.TheVariants.{Deep, Edge, Low}
use Rattle.sgp4_motion.specs.Fate.{HasPerigeeBelow, HasPerigeeBetween, HasPeriodFrom, IsFullSet, IsNearEarth, MayAccept, MayRefuse, MayRefuseSet, low_perigee_km}

-- a set that may be refused at whatever instants may be refused from any instant to any other
abbrev pub RefusedSetsMayBeRefused : Type 0
RefusedSetsMayBeRefused = (set : SetRecord) (first last : ℤ) (fault : SatFault) → MayRefuseSet set fault → MayRefuse set first last fault

-- the fault is that of the period, and some period is of at least 224.999 minutes; or that of a low perigee, and some perigee
-- is below the least one and a metre; or that of the edge, and some perigee is from 219.999 to 220.001 km
abbrev pub IsNextToALimit : SetRecord → SatFault → Type 0
IsNextToALimit set fault =
    ((fault ≡ Deep) × HasPeriodFrom (decimal 224999 3) set)
    ⊎ (((fault ≡ Low) × HasPerigeeBelow low_perigee_km set) ⊎ ((fault ≡ Edge) × HasPerigeeBetween (decimal 219999 3) (decimal 220001 3) set))

-- a set that may be accepted may be refused at most for its period or its perigee, where these are next to a limit
abbrev pub AcceptedSetsAreNearALimit : Type 0
AcceptedSetsAreNearALimit = (set : SetRecord) (first last : ℤ) (fault : SatFault) → MayAccept set first last → MayRefuse set first last fault → IsNextToALimit set fault

-- with a least accepted perigee of 300 km, each recovered motion of a set that is near the Earth is full
abbrev pub NearEarthSetsAreFull : Type 0
NearEarthSetsAreFull = (set : SetRecord) → IsNearEarth set → IsFullSet set
