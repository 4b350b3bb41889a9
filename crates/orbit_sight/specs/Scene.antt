-- What a station sees over a cell of a window: the positions of a set and the Earth's turn, enclosed.
use Rattle.std.specs.Prelude.{ℤ}
use Rattle.exact.specs.Rational.{ℚ}
use Rattle.decimals.specs.Decimal.{value}
use Rattle.earth_frame.specs.Spread.{IsSpreadWithin}
use Rattle.fixed_iv.specs.Place.{Place}
use Rattle.fixed_iv.specs.declared.enc.Enc.{Ghosts}
use Rattle.sgp4_model.specs.Angle.{IsPi, Pair}
use Rattle.sgp4_model.specs.Records.{SetRecord, StationRecord}
use Rattle.sgp4_model.specs.Sidereal.{IsSiderealPair}
use Rattle.sgp4_model.specs.Solution.{IsSolution, SolutionRecord}
use Rattle.station_view.specs.Masks.{records_of}
use Rattle.station_view.specs.SightReach.{CoversSight}
use Rattle.station_view.specs.Toward.{CoversTurn}
use Rattle.station_view.specs.declared.station.Station.{Station}
use Rattle.station_view.specs.declared.vector.Sight.{Sight}
use Rattle.orbit_sight.specs.Over.{CellRecord, CoversEachPosition, IsLeastPosition, instant_on}
use Rattle.orbit_sight.specs.declared.scene.Scene.{Scene}

-- the plain record of a station
abbrev pub record_of_station : Station → StationRecord
record_of_station s = record { lat = value s.spot.lat; lon = value s.spot.lon; height = value s.height; sectors = records_of s.mask }

module _ (set : SetRecord) (dut1 : ℤ) (cell : CellRecord) where
  -- at each place of the cell each position of the set is covered, and each pair of the sidereal angle
  pub record CoversScene {A : Type 0} (E : Ghosts A) (scene : Scene A) : Type 0 where
    pub positions : CoversEachPosition set cell E scene.position
    pub turns : (h : Place) (pi : ℚ) (pair : Pair) → IsPi pi → IsSiderealPair pi (instant_on cell h) dut1 pair → CoversTurn E scene.turn h pair

  -- they are as narrow as those of a least cell
  pub record IsLeastScene {A : Type 0} (E : Ghosts A) (scene : Scene A) : Type 0 where
    pub position : IsLeastPosition set cell E scene.position
    pub sine : IsSpreadWithin 2291264 (E.extent scene.turn.sin)
    pub cosine : IsSpreadWithin 2291264 (E.extent scene.turn.cos)

-- at each place of the cell the direction of each solution of a set and a station is covered
abbrev pub CoversEachSolution : SetRecord → StationRecord → ℤ → CellRecord → {A : Type 0} → Ghosts A → Sight A → Type 0
CoversEachSolution set row dut1 cell E sight =
    (h : Place) (s : SolutionRecord) → IsSolution set row (instant_on cell h) dut1 s → CoversSight E sight h s.sight
