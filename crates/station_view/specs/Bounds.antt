-- What the bounds of a direction, of lengths and the enclosures of a sector hold, and how wide what is made of them is.
use Rattle.std.specs.Prelude.{ℕ, ◌+◌, ◌^◌, ◌⊎◌, ◌<ℤ◌, pos}
use Rattle.exact.specs.Rational.{ℚ, ratio, ◌≤ℚ◌}
use Rattle.fixed_iv.specs.Extent.{width_of}
use Rattle.fixed_iv.specs.Holds.{Holds, IsBounded}
use Rattle.fixed_iv.specs.Results.{IsDifference, IsProduct}
use Rattle.fixed_iv.specs.declared.iv.Iv.{Iv}
use Rattle.sgp4_model.specs.Sectors.{SectorSides}
use Rattle.sgp4_model.specs.Sight.{SightRecord}
use Rattle.station_view.specs.Lengths.{LengthsRecord}
use Rattle.station_view.specs.declared.sector.EnclosedSector.{EnclosedSector}
use Rattle.station_view.specs.declared.vector.Lengths.{Lengths}
use Rattle.station_view.specs.declared.vector.Sight.{Sight}

-- the direction lies in the bounds
pub record HoldSight (sight : Sight Iv) (v : SightRecord) : Type 0 where
  pub east : Holds sight.east v.east
  pub north : Holds sight.north v.north
  pub up : Holds sight.up v.up

-- the lengths lie in the bounds
pub record HoldLengths (lengths : Lengths Iv) (l : LengthsRecord) : Type 0 where
  pub east : Holds lengths.east l.east
  pub north : Holds lengths.north l.north
  pub up : Holds lengths.up l.up
  pub range : Holds lengths.range l.range

-- the pairs of the borders and the floor's sine lie in the sector's enclosures
pub record HoldSides (e : EnclosedSector) (s : SectorSides) : Type 0 where
  pub sin_from : Holds e.sin_from s.from.sine
  pub cos_from : Holds e.cos_from s.from.cosine
  pub sin_to : Holds e.sin_to s.to.sine
  pub cos_to : Holds e.cos_to s.to.cosine
  pub floor : Holds e.sin_floor s.floor

-- a cross product a * b - c * d, made by the operators of intervals
pub record IsCross (a b c d cross : Iv) : Type 0 where
  pub left : Iv
  pub right : Iv
  pub of_left : IsProduct a b left
  pub of_right : IsProduct c d right
  pub is : IsDifference left right cross

-- so many units of 2^-48 are at most b
abbrev pub AreAtMost : ℚ → ℕ → Type 0
AreAtMost b units = ratio (pos units) (2 ^ 48) ≤ℚ b

-- bounded, and no wider than b
pub record IsNoWiderThan (b : ℚ) (v : Iv) : Type 0 where
  pub bounded : IsBounded v
  pub width : AreAtMost b (width_of v)

-- The bounds are narrow by b with a sector: the width of `up` and that of the floor's sine add up to b at most, and each
-- cross product is no wider than b.
pub record IsNarrowWith (b : ℚ) (sight : Sight Iv) (e : EnclosedSector) : Type 0 where
  pub bounded : IsBounded sight.up
  pub up : AreAtMost b (width_of sight.up + width_of e.sin_floor)
  pub from : (cross : Iv) → IsCross e.cos_from sight.east e.sin_from sight.north cross → IsNoWiderThan b cross
  pub to : (cross : Iv) → IsCross e.sin_to sight.north e.cos_to sight.east cross → IsNoWiderThan b cross

-- Lengths are narrow by b with a sector: the width of `up` and that of the floor's sine times the range add up to b at
-- most, and each cross product is no wider than b.
pub record AreNarrowWith (b : ℚ) (lengths : Lengths Iv) (e : EnclosedSector) : Type 0 where
  pub bounded : IsBounded lengths.up
  pub floor : (product : Iv) → IsProduct e.sin_floor lengths.range product → IsBounded product
  pub up : (product : Iv) → IsProduct e.sin_floor lengths.range product → AreAtMost b (width_of lengths.up + width_of product)
  pub from : (cross : Iv) → IsCross e.cos_from lengths.east e.sin_from lengths.north cross → IsNoWiderThan b cross
  pub to : (cross : Iv) → IsCross e.sin_to lengths.north e.cos_to lengths.east cross → IsNoWiderThan b cross

-- the vector surely lies outside a sector: a cross product lies below 0
abbrev pub LiesOutside : Iv → Iv → EnclosedSector → Type 0
LiesOutside east north e =
    (past short : Iv) → IsCross e.cos_from east e.sin_from north past → IsCross e.sin_to north e.cos_to east short →
    (past.hi <ℤ pos 0) ⊎ (short.hi <ℤ pos 0)
