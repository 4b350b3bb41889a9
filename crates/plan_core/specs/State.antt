-- What a contract sees of a planner and of a plan; and the plan in plain words.
use Rattle.std.specs.Prelude.{◌≡◌, ℕ, List, map, Option, None, Some}
use Rattle.catalogue.specs.declared.entry.Entry.{Entry}
use Rattle.elements.specs.Elements.{ElementsRecord}
use Rattle.elements.specs.Window.{WindowRecord}
use Rattle.plan_core.specs.Certificate.{SettingRecord}
use Rattle.plan_text.specs.Plan.{PlanRecord, RowRecord, SatelliteRecord, StandingRecord, planned, refused}
use Rattle.sgp4_shape.specs.declared.fault.SatFault.{SatFault}
use Rattle.span_bisect.specs.Answer.{answer_record, answer_spans}
use Rattle.span_bisect.specs.declared.answer.TrackAnswer.{TrackAnswer}
use Rattle.span_pool.specs.Record.{PoolRecord}
use Rattle.station_file.specs.declared.row.StationRow.{StationRow}

-- a satellite: its set, its name, why it is refused, if it is; the answer for its light, and those of the stations. Where it
-- is refused the answers are not looked at
pub record SatState : Type 0 where
  pub set : ElementsRecord
  pub name : List ℕ
  pub fate : Option SatFault
  pub lit : TrackAnswer
  pub pairs : List TrackAnswer

-- a planner: the entries of its catalogue, the fate of each, its stations and its window, and its pool
pub record PlannerState : Type 0 where
  pub entries : List Entry
  pub fates : List (Option SatFault)
  pub setting : SettingRecord
  pub pool : PoolRecord

-- a plan: its stations and its window, its satellites, the pool of their spans, and how many verdicts were asked for
pub record PlanState : Type 0 where
  pub setting : SettingRecord
  pub satellites : List SatState
  pub pool : PoolRecord
  pub cells : ℕ

-- the entry of a satellite
abbrev pub entry_of : SatState → Entry
entry_of satellite = record { elements = satellite.set; name = satellite.name }

-- the row of an answer, whose spans are in a pool
abbrev pub row_of : PoolRecord → TrackAnswer → RowRecord
row_of pool answer = record { answer = answer_record answer; list = answer_spans pool answer }

-- what is made of a satellite of such a fate, with these answers
abbrev pub standing_by : PoolRecord → TrackAnswer → List TrackAnswer → Option SatFault → StandingRecord
standing_by pool lit pairs None = planned (row_of pool lit) (map (row_of pool) pairs)
standing_by pool lit pairs (Some fault) = refused fault

-- the satellite in plain words
abbrev pub satellite_of : PoolRecord → SatState → SatelliteRecord
satellite_of pool satellite = record {
  number = satellite.set.number;
  name = satellite.name;
  standing = standing_by pool satellite.lit satellite.pairs satellite.fate;
}

-- the plan in plain words
abbrev pub plan_record : PlanState → PlanRecord
plan_record plan = record {
  window = plan.setting.window;
  offset = plan.setting.stations.dut1;
  stations = map (λ (row : StationRow). row.name) plan.setting.stations.rows;
  satellites = map (satellite_of plan.pool) plan.satellites;
}

-- the plan has the stations and the window of a planner, and its satellites, of the same fates
pub record IsPlanBy (planner : PlannerState) (plan : PlanState) : Type 0 where
  pub setting : plan.setting ≡ planner.setting
  pub entries : map entry_of plan.satellites ≡ planner.entries
  pub fates : map (λ (satellite : SatState). satellite.fate) plan.satellites ≡ planner.fates
