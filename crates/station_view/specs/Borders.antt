-- Where the sectors of a row begin.
use Rattle.std.specs.Prelude.{◌≡◌, MatchOption, Option}
use Rattle.decimals.specs.Decimal.{DecimalRecord}
use Rattle.station_file.specs.declared.sector.Sector.{Sector}

-- there is a sector, and it begins at the border
abbrev pub BeginsAt : DecimalRecord → Option Sector → Type 0
BeginsAt border sector = MatchOption sector ⊥ (λ s. border ≡ s.border)
