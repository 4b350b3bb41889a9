-- That a mask leaves no direction out.
use Rattle.std.specs.Prelude.{List}
use Rattle.exact.specs.Rational.{ℚ}
use Rattle.sgp4_model.specs.Angle.{IsPi}
use Rattle.sgp4_model.specs.Mask.{SomeSector}
use Rattle.sgp4_model.specs.Sectors.{AreMaskPairs, HoldsDirection, SectorPairs, sides_of}
use Rattle.sgp4_model.specs.Sight.{SightRecord}
use Rattle.station_view.specs.Masks.{records_of}
use Rattle.station_view.specs.declared.sector.EnclosedSector.{EnclosedSector}

-- some sector holds each direction, whatever pairs the borders have
abbrev pub HoldsEachDirection : List EnclosedSector → Type 0
HoldsEachDirection mask =
    (pi : ℚ) (pairs : List SectorPairs) (v : SightRecord) → IsPi pi → AreMaskPairs pi (records_of mask) pairs →
    SomeSector (λ sector. HoldsDirection sector v) (sides_of pairs)
