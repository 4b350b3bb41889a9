-- The answers of a planner: that of a satellite's light, and that of a satellite at a station, by their places.
use Rattle.std.specs.Prelude.{◌≡◌, ℕ, slice_get, Some}
use Rattle.catalogue.specs.declared.entry.Entry.{Entry}
use Rattle.plan_core.specs.Certificate.{SettingRecord, light_of, sight_of}
use Rattle.plan_core.specs.Kept.{IsRowMade}
use Rattle.plan_core.specs.State.{PlannerState, SatState}
use Rattle.span_bisect.specs.Answer.{IsAnswer}
use Rattle.span_bisect.specs.declared.answer.TrackAnswer.{TrackAnswer}
use Rattle.span_pool.specs.Record.{PoolRecord}
use Rattle.station_file.specs.declared.row.StationRow.{StationRow}

-- the answer for a satellite's light is certified
abbrev pub IsLightAnswer : PlannerState → ℕ → PoolRecord → TrackAnswer → Type 0
IsLightAnswer planner sat new answer =
    (entry : Entry) → slice_get planner.entries sat ≡ Some entry →
    IsAnswer (light_of planner.setting.window entry.elements) planner.setting.window.resolution planner.pool new answer

-- the answer for a satellite at a station is certified
abbrev pub IsSightAnswer : PlannerState → ℕ → ℕ → PoolRecord → TrackAnswer → Type 0
IsSightAnswer planner sat station new answer =
    (entry : Entry) (row : StationRow) → slice_get planner.entries sat ≡ Some entry →
    slice_get planner.setting.stations.rows station ≡ Some row →
    IsAnswer (sight_of planner.setting entry.elements row) planner.setting.window.resolution planner.pool new answer

-- the row of a satellite at a station was made, from one pool to another
abbrev pub IsSightMade : SettingRecord → SatState → ℕ → PoolRecord → PoolRecord → TrackAnswer → Type 0
IsSightMade setting satellite station old new answer =
    (row : StationRow) → slice_get setting.stations.rows station ≡ Some row →
    IsRowMade (sight_of setting satellite.set row) setting.window.resolution old new answer
