-- What is there after rows were made, one after another.
use Rattle.std.specs.Prelude.{◌≡◌, ℕ, ◌+◌, ◌≤◌, List, length, map, All}
use Rattle.std.specs.List.{sum_by}
use Rattle.catalogue.specs.Entries.{most_entries}
use Rattle.elements.specs.Elements.{ElementsRecord}
use Rattle.plan_core.specs.Certificate.{SettingRecord, ArePairRows, AreSatellitesOf, IsSatelliteOf, spans_in, spans_of}
use Rattle.plan_core.specs.Kept.{HoldsRows, IsKept}
use Rattle.plan_core.specs.Readers.{IsReady}
use Rattle.plan_core.specs.State.{PlanState, SatState, entry_of, plan_record, row_of, satellite_of}
use Rattle.plan_text.specs.Plan.{IsPlan, SatelliteRecord, most_spans}
use Rattle.span_bisect.specs.Answer.{IsHeld}
use Rattle.span_bisect.specs.declared.answer.TrackAnswer.{TrackAnswer}
use Rattle.span_pool.specs.Record.{PoolRecord}
use Rattle.span_pool.specs.Pool.{slots_used}
use Rattle.station_file.specs.declared.row.StationRow.{StationRow}

-- rows of a satellite at stations were made, from one pool to another
pub record ArePairsMade (setting : SettingRecord) (set : ElementsRecord) (old new : PoolRecord) (stations : List StationRow) (answers : List TrackAnswer) : Type 0 where
  pub kept : IsKept old new
  pub held : All (IsHeld new) answers
  pub used : slots_used new ≡ slots_used old + spans_in (map (row_of new) answers)
  pub rows : ArePairRows setting old.slots set (slots_used old) stations (map (row_of new) answers)

-- the rows of a satellite were made
pub record IsFilled (setting : SettingRecord) (old new : PoolRecord) (satellite : SatState) : Type 0 where
  pub kept : IsKept old new
  pub held : HoldsRows new satellite
  pub used : slots_used new ≡ slots_used old + spans_of (satellite_of new satellite).standing
  pub is : IsSatelliteOf setting old.slots (slots_used old) (entry_of satellite) (satellite_of new satellite)

-- how many spans the rows of satellites have
abbrev pub spans_in_all : List SatelliteRecord → ℕ
spans_in_all satellites = sum_by (λ (satellite : SatelliteRecord). spans_of satellite.standing) satellites

-- the rows of satellites were made
pub record AreFilled (setting : SettingRecord) (old new : PoolRecord) (satellites : List SatState) : Type 0 where
  pub kept : IsKept old new
  pub held : All (HoldsRows new) satellites
  pub used : slots_used new ≡ slots_used old + spans_in_all (map (satellite_of new) satellites)
  pub are : AreSatellitesOf setting old.slots (slots_used old) (map entry_of satellites) (map (satellite_of new) satellites)

-- the rows of satellites were made in a pool that was empty before
pub record IsMadeFromNone (setting : SettingRecord) (pool : PoolRecord) (satellites : List SatState) : Type 0 where
  pub empty : PoolRecord
  pub none : slots_used empty ≡ 0
  pub filled : AreFilled setting empty pool satellites

-- what every planner keeps
pub record ArePlanned (setting : SettingRecord) (satellites : List SatState) (pool : PoolRecord) : Type 0 where
  pub ready : All (IsReady setting) satellites
  pub few : length satellites ≤ most_entries
  pub slots : pool.slots ≤ most_spans

-- what every plan keeps
pub record IsPlanState (plan : PlanState) : Type 0 where
  pub is_plan : IsPlan (plan_record plan)
  pub held : All (HoldsRows plan.pool) plan.satellites
  pub few : spans_in_all (plan_record plan).satellites ≤ most_spans
