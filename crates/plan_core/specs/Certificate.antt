-- What a plan certifies: each satellite of a catalogue, in order, and each row of those that are accepted.
use Rattle.std.specs.Prelude.{◌≡◌, ℕ, ◌+◌, ℤ, List, [], ◌∷◌, length, map, ⊤}
use Rattle.std.specs.List.{sum_by}
use Rattle.catalogue.specs.declared.entry.Entry.{Entry}
use Rattle.elements.specs.Elements.{ElementsRecord, record_of_elements}
use Rattle.elements.specs.Window.{WindowRecord, tick_instant}
use Rattle.plan_text.specs.Plan.{PlanRecord, RowRecord, SatelliteRecord, StandingRecord, planned, refused}
use Rattle.sgp4_model.specs.Certified.{IsCertified, TrackRecord}
use Rattle.sgp4_model.specs.Grazing.{pair_track}
use Rattle.sgp4_model.specs.LitSolution.{lit_track}
use Rattle.sgp4_motion.specs.Fate.{MayAccept, MayRefuse}
use Rattle.station_file.specs.Rows.{StationsRecord, record_of_station}
use Rattle.station_file.specs.declared.row.StationRow.{StationRow}

-- what rows are judged by: stations with an offset, and a window
pub record SettingRecord : Type 0 where
  pub stations : StationsRecord
  pub window : WindowRecord

-- when the window ends, in nanoseconds from 2000-01-01T12:00:00 UTC
abbrev pub end_of : WindowRecord → ℤ
end_of window = tick_instant window.start window.ticks

-- the track of a satellite's light
abbrev pub light_of : WindowRecord → ElementsRecord → TrackRecord
light_of window set = lit_track (record_of_elements set) window.start window.ticks

-- the track of a satellite at a station
abbrev pub sight_of : SettingRecord → ElementsRecord → StationRow → TrackRecord
sight_of setting set station =
    pair_track (record_of_elements set) (record_of_station station) setting.window.start setting.stations.dut1 setting.window.ticks

-- a row of a plan with so many slots is certified, where so many spans came before it
abbrev pub IsCertifiedRow : TrackRecord → ℕ → ℕ → ℕ → RowRecord → Type 0
IsCertifiedRow track resolution slots used row = IsCertified track resolution slots used row.answer row.list

-- the rows are certified, one for each station in order, where so many spans came before the first
abbrev pub ArePairRows : SettingRecord → ℕ → ElementsRecord → ℕ → List StationRow → List RowRecord → Type 0
ArePairRows setting slots set used [] [] = ⊤
ArePairRows setting slots set used [] (row ∷ rows) = ⊥
ArePairRows setting slots set used (station ∷ stations) [] = ⊥
ArePairRows setting slots set used (station ∷ stations) (row ∷ rows) =
    IsCertifiedRow (sight_of setting set station) setting.window.resolution slots used row
    × ArePairRows setting slots set (used + length row.list) stations rows

-- how many spans rows have
abbrev pub spans_in : List RowRecord → ℕ
spans_in rows = sum_by (λ (row : RowRecord). length row.list) rows

-- how many spans the rows of a satellite have
abbrev pub spans_of : StandingRecord → ℕ
spans_of (refused fault) = 0
spans_of (planned lit pairs) = length lit.list + spans_in pairs

-- the satellite of a set may be refused; or it may be accepted, and the row of its light and those of the stations are
-- certified
abbrev pub IsStanding : SettingRecord → ℕ → ElementsRecord → ℕ → StandingRecord → Type 0
IsStanding setting slots set used (refused fault) =
    MayRefuse (record_of_elements set) setting.window.start (end_of setting.window) fault
IsStanding setting slots set used (planned lit pairs) =
    MayAccept (record_of_elements set) setting.window.start (end_of setting.window)
    × IsCertifiedRow (light_of setting.window set) setting.window.resolution slots used lit
    × ArePairRows setting slots set (used + length lit.list) setting.stations.rows pairs

-- the satellite is that of an entry
pub record IsSatelliteOf (setting : SettingRecord) (slots used : ℕ) (entry : Entry) (satellite : SatelliteRecord) : Type 0 where
  pub number : satellite.number ≡ entry.elements.number
  pub name : satellite.name ≡ entry.name
  pub standing : IsStanding setting slots entry.elements used satellite.standing

-- the satellites are those of the entries in order, none left out, where so many spans came before the first
abbrev pub AreSatellitesOf : SettingRecord → ℕ → ℕ → List Entry → List SatelliteRecord → Type 0
AreSatellitesOf setting slots used [] [] = ⊤
AreSatellitesOf setting slots used [] (satellite ∷ satellites) = ⊥
AreSatellitesOf setting slots used (entry ∷ entries) [] = ⊥
AreSatellitesOf setting slots used (entry ∷ entries) (satellite ∷ satellites) =
    IsSatelliteOf setting slots used entry satellite
    × AreSatellitesOf setting slots (used + spans_of satellite.standing) entries satellites

-- the plan of a catalogue's entries, of stations and of a window, with so many slots for spans: it has the window, the
-- offset and the stations' names, and each satellite with its certified rows
pub record IsPlanOf (slots : ℕ) (entries : List Entry) (setting : SettingRecord) (plan : PlanRecord) : Type 0 where
  pub window : plan.window ≡ setting.window
  pub offset : plan.offset ≡ setting.stations.dut1
  pub stations : plan.stations ≡ map (λ (row : StationRow). row.name) setting.stations.rows
  pub satellites : AreSatellitesOf setting slots 0 entries plan.satellites
