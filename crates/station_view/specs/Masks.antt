-- What an enclosed mask is: the sectors of an elevation mask, each with the border at which it ends.
use Rattle.std.specs.Prelude.{◌≡◌, List, [], ◌∷◌, map}
use Rattle.decimals.specs.Decimal.{DecimalRecord}
use Rattle.sgp4_model.specs.Records.{SectorRecord}
use Rattle.station_file.specs.Masks.{IsMask}
use Rattle.station_file.specs.Rows.{record_of_sector}
use Rattle.station_file.specs.declared.sector.Sector.{Sector}
use Rattle.station_view.specs.declared.sector.EnclosedSector.{EnclosedSector}

-- a sector, and the azimuth at which it ends
pub record Stretch : Type 0 where
  pub sector : Sector
  pub end : DecimalRecord

-- the border after these: that of the next sector, or the first one
abbrev pub border_after : DecimalRecord → List Sector → DecimalRecord
border_after first [] = first
border_after first (sector ∷ sectors) = sector.border

-- sectors with their ends, of which the last is a first border
abbrev pub stretches_to : DecimalRecord → List Sector → List Stretch
stretches_to first [] = []
stretches_to first (sector ∷ sectors) = record { sector = sector; end = border_after first sectors } ∷ stretches_to first sectors

-- the sectors of a mask with their ends
abbrev pub stretches : List Sector → List Stretch
stretches [] = []
stretches (sector ∷ sectors) = stretches_to sector.border (sector ∷ sectors)

-- what an enclosed sector is without its enclosures
abbrev pub sector_of : EnclosedSector → Sector
sector_of e = e.sector

abbrev pub stretch_of : EnclosedSector → Stretch
stretch_of e = record { sector = e.sector; end = e.end }

-- the sectors are a mask, and each ends where the next one begins
pub record IsEnclosedMask (mask : List EnclosedSector) : Type 0 where
  pub sectors : IsMask (map sector_of mask)
  pub ends : map stretch_of mask ≡ stretches (map sector_of mask)

-- the plain records of its sectors
abbrev pub records_of : List EnclosedSector → List SectorRecord
records_of mask = map record_of_sector (map sector_of mask)
