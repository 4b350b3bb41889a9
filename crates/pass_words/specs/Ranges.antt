-- The ranges of the values of a request.
use Rattle.std.specs.Prelude.{ℕ, ◌<◌, ◌≤◌, ◌^◌, ⊤, pos, neg_ℤ}
use Rattle.decimals.specs.Decimal.{DecimalRecord, value}
use Rattle.elements.specs.Elements.{IsFromTo}
use Rattle.pass_words.specs.declared.request.Request.{Request}
use Rattle.pass_words.specs.declared.request.Request.TheVariants.{Day, Plan, Show, Locate, Grid, Book}

-- a latitude is from -90 to 90 degrees, and a longitude from -180 to 360
pub record IsPlace (lat lon : DecimalRecord) : Type 0 where
  pub latitude : IsFromTo (neg_ℤ (pos 90)) (pos 90) (value lat)
  pub longitude : IsFromTo (neg_ℤ (pos 180)) (pos 360) (value lon)

-- a count is from 1 to the most
pub record IsCount (most count : ℕ) : Type 0 where
  pub least : 1 ≤ count
  pub greatest : count ≤ most

-- the values of a request are in their ranges
abbrev pub IsInRange : Request → Type 0
IsInRange (Day lat lon window) = IsPlace lat lon
IsInRange (Plan catalogue stations window) = ⊤
IsInRange (Show catalogue start) = ⊤
IsInRange (Locate catalogue number instant) = number < 10 ^ 9
IsInRange (Grid count) = IsCount 1_000 count
IsInRange (Book catalogue stations window antennas) = IsCount 64 antennas
