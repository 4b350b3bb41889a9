-- The rows of a plan, each with the track that it tells of.
use Rattle.std.specs.Prelude.{◌≡◌, ℕ, List, slice_get, Some}
use Rattle.catalogue.specs.declared.entry.Entry.{Entry}
use Rattle.plan_core.specs.Certificate.{SettingRecord, light_of, sight_of}
use Rattle.plan_text.specs.Plan.{PlanRecord, RowRecord, SatelliteRecord, planned}
use Rattle.sgp4_model.specs.Certified.{TrackRecord}
use Rattle.station_file.specs.declared.row.StationRow.{StationRow}

-- the satellite of an entry is at the entry's place in the plan, and it is accepted: the row of its light, and those of the
-- stations
pub record IsAccepted (entries : List Entry) (plan : PlanRecord) (entry : Entry) (light : RowRecord) (pairs : List RowRecord) : Type 0 where
  pub place : ℕ
  pub satellite : SatelliteRecord
  pub entry_is : slice_get entries place ≡ Some entry
  pub satellite_is : slice_get plan.satellites place ≡ Some satellite
  pub accepted : satellite.standing ≡ planned light pairs

-- the row of the light of the satellite of an entry, which is accepted
pub record IsLightRow (entries : List Entry) (plan : PlanRecord) (entry : Entry) (row : RowRecord) : Type 0 where
  pub pairs : List RowRecord
  pub accepted : IsAccepted entries plan entry row pairs

-- the row of such a satellite at a station
pub record IsPairRow (entries : List Entry) (stations : List StationRow) (plan : PlanRecord) (entry : Entry) (station : StationRow) (row : RowRecord) : Type 0 where
  pub light : RowRecord
  pub pairs : List RowRecord
  pub accepted : IsAccepted entries plan entry light pairs
  pub place : ℕ
  pub station_is : slice_get stations place ≡ Some station
  pub row_is : slice_get pairs place ≡ Some row

-- a fact holds of each row of a plan and of the track that it tells of
pub record OfEachRow (entries : List Entry) (setting : SettingRecord) (plan : PlanRecord) (holds : TrackRecord → RowRecord → Type 0) : Type 0 where
  pub light : (entry : Entry) (row : RowRecord) → IsLightRow entries plan entry row →
      holds (light_of setting.window entry.elements) row
  pub pair : (entry : Entry) (station : StationRow) (row : RowRecord) → IsPairRow entries setting.stations.rows plan entry station row →
      holds (sight_of setting entry.elements station) row
