-- What a certified row of a pair says of every instant, told down to the numbers.
use Rattle.std.specs.Prelude.{◌≡◌, ℕ, ℤ, pos, Contains, List}
use Rattle.exact.specs.Rational.{ℚ, ◌+ℚ◌, ◌-ℚ◌, ◌*ℚ◌, ◌/ℚ◌, neg_ℚ, ratio, zero_ℚ, ◌≤ℚ◌, ◌<ℚ◌}
use Rattle.sgp4_model.specs.Angle.{IsPi, Pair}
use Rattle.sgp4_model.specs.Constants.{IsConsts}
use Rattle.sgp4_model.specs.Grazing.{pair_track}
use Rattle.sgp4_model.specs.MeanElements.{IsMean}
use Rattle.sgp4_model.specs.OrbitRecords.{ConstRecord, MeanRecord}
use Rattle.sgp4_model.specs.Position.{IsPosition}
use Rattle.sgp4_model.specs.Records.{SetRecord, StationRecord}
use Rattle.sgp4_model.specs.Root.{IsSqrt}
use Rattle.sgp4_model.specs.Sectors.{AreMaskPairs, SectorPairs, SectorSides, sides_of}
use Rattle.sgp4_model.specs.Simple.{IsSimple}
use Rattle.sgp4_model.specs.StationPlace.{IsStationPlace}
use Rattle.sgp4_model.specs.Vector.{Vector}
use Rattle.sgp4_model.specs.declared.span.Mark.{Mark}
use Rattle.sgp4_model.specs.declared.span.Mark.TheVariants.{Yes, No, Undecided}
use Rattle.sgp4_model.specs.declared.span.Span.{Span}
use Rattle.rows_model.specs.Instants.{IsIn, IsPairAt, IsSpanOf, IsTurnAt, minutes_from, seconds_at}

-- what a direction is made of: a pi, constants, mean elements, a root of Kepler's equation, a position, pairs of the latitude,
-- the longitude and the sidereal angle, the station's place, the range, and the pairs of the mask
pub record Contact : Type 0 where
  pub pi : ℚ
  pub k : ConstRecord
  pub m : MeanRecord
  pub root : ℚ
  pub r : Vector
  pub f : Pair
  pub l : Pair
  pub t : Pair
  pub place : Vector
  pub range : ℚ
  pub pairs : List SectorPairs

module _ (c : Contact) where
  open c use {r, f, l, t, place, range}

  -- the components of the vector from the station to the satellite, Earth-fixed
  abbrev pub along_x : ℚ
  along_x = r.x *ℚ t.cosine +ℚ r.y *ℚ t.sine -ℚ place.x

  abbrev pub along_y : ℚ
  along_y = neg_ℚ r.x *ℚ t.sine +ℚ r.y *ℚ t.cosine -ℚ place.y

  abbrev pub along_z : ℚ
  along_z = r.z -ℚ place.z

  -- the square of its length
  abbrev pub square : ℚ
  square = along_x *ℚ along_x +ℚ along_y *ℚ along_y +ℚ along_z *ℚ along_z

  -- its directions to the east, to the north and up
  abbrev pub east : ℚ
  east = (along_x *ℚ neg_ℚ l.sine +ℚ along_y *ℚ l.cosine +ℚ along_z *ℚ zero_ℚ) /ℚ range

  abbrev pub north : ℚ
  north = (along_x *ℚ (neg_ℚ f.sine *ℚ l.cosine) +ℚ along_y *ℚ (neg_ℚ f.sine *ℚ l.sine) +ℚ along_z *ℚ f.cosine) /ℚ range

  abbrev pub up : ℚ
  up = (along_x *ℚ (f.cosine *ℚ l.cosine) +ℚ along_y *ℚ (f.cosine *ℚ l.sine) +ℚ along_z *ℚ f.sine) /ℚ range

  -- the sector is one of the mask's, and its borders are to either side of the direction, but for b
  pub record IsHeldIn (b : ℚ) (sector : SectorSides) : Type 0 where
    pub one : Contains (sides_of c.pairs) sector
    pub from : neg_ℚ b ≤ℚ east *ℚ sector.from.cosine -ℚ north *ℚ sector.from.sine
    pub to : neg_ℚ b ≤ℚ north *ℚ sector.to.sine -ℚ east *ℚ sector.to.cosine

  -- the direction is above the floor of each sector that holds it, or below that of each
  abbrev pub IsOver : Type 0
  IsOver = (sector : SectorSides) → IsHeldIn zero_ℚ sector → sector.floor <ℚ up

  abbrev pub IsUnder : Type 0
  IsUnder = (sector : SectorSides) → IsHeldIn zero_ℚ sector → up <ℚ sector.floor

  -- it is near the mask by b: at most b over the floor of a sector that holds it but for b, and at most b under that of one
  pub record IsNearMask (b : ℚ) : Type 0 where
    pub first : SectorSides
    pub first_holds : IsHeldIn b first
    pub low : up ≤ℚ first.floor +ℚ b
    pub second : SectorSides
    pub second_holds : IsHeldIn b second
    pub high : second.floor ≤ℚ up +ℚ b

  -- at so many seconds it is one of a set and a station
  pub record IsContact (set : SetRecord) (row : StationRecord) (at : ℚ) (dut1 : ℤ) : Type 0 where
    pub is_pi : IsPi c.pi
    pub constants : IsConsts set c.pi c.k
    pub mean : IsMean c.k c.pi (minutes_from set.epoch at) c.m
    pub position : IsPosition c.k c.m c.pi c.root r
    pub latitude : IsPairAt c.pi row.lat f
    pub longitude : IsPairAt c.pi row.lon l
    pub turn : IsTurnAt c.pi at dut1 t
    pub place_is : IsStationPlace f l (row.height *ℚ ratio (pos 1) 1000) place
    pub range_is : IsSqrt square range
    pub range_divides : ¬ (range ≡ zero_ℚ)
    pub mask : AreMaskPairs c.pi row.sectors c.pairs

module _ (set : SetRecord) (row : StationRecord) (start dut1 : ℤ) (ticks : ℕ) (span : Span) where
  -- a fact of all contacts in the spans of a mark
  abbrev pub OfPairSpans : Mark → (Contact → Type 0) → Type 0
  OfPairSpans mark fact =
      (x : ℚ) (c : Contact) → IsSpanOf (pair_track set row start dut1 ticks) mark span → IsIn span x →
      IsContact c set row (seconds_at start x) dut1 → fact c

  -- there are some in the spans of a mark
  abbrev pub SomeInPairSpans : Mark → Type 0
  SomeInPairSpans mark =
      (x : ℚ) → IsSpanOf (pair_track set row start dut1 ticks) mark span → IsIn span x → (c : Contact) × IsContact c set row (seconds_at start x) dut1

  -- in a certified row, wherever a visible span is, the satellite is over each floor; a hidden one, under each; undecided, near
  -- the mask by 0.001, or by 0.002 where the constants are simple, and by 2^-15 over the range
  pub record PairSpansAreTrue : Type 0 where
    pub visible : OfPairSpans Yes IsOver
    pub hidden : OfPairSpans No IsUnder
    pub undecided : OfPairSpans Undecided (λ c. ¬ IsSimple c.k → IsNearMask c (ratio (pos 1) 1000))
    pub simple : OfPairSpans Undecided (λ c. IsSimple c.k → IsNearMask c (ratio (pos 2) 1000))
    pub sharp : OfPairSpans Undecided (λ c. IsNearMask c (ratio (pos 1) 32768 /ℚ c.range))
    pub some_visible : SomeInPairSpans Yes
    pub some_hidden : SomeInPairSpans No
    pub some_undecided : SomeInPairSpans Undecided

-- so for each set, station, window and offset
abbrev pub CertifiedContactsAreTrue : Type 0
CertifiedContactsAreTrue =
    (set : SetRecord) (row : StationRecord) (start dut1 : ℤ) (ticks : ℕ) (span : Span) → PairSpansAreTrue set row start dut1 ticks span
