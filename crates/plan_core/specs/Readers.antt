-- What the readers of a plan give.
use Rattle.std.specs.Prelude.{◌≡◌, ℕ, ◌<◌, ◌≤◌, ◌^◌, List, length, map, slice_get, Option, None, Some, All}
use Rattle.catalogue.specs.Entries.{IsName}
use Rattle.elements.specs.Elements.{ElementsRecord}
use Rattle.elements.specs.Window.{WindowRecord}
use Rattle.plan_core.specs.Certificate.{SettingRecord}
use Rattle.plan_core.specs.Fates.{IsFate}
use Rattle.plan_core.specs.State.{SatState}
use Rattle.plan_core.specs.declared.sat_row.SatRow.{SatRow}
use Rattle.sgp4_shape.specs.declared.fault.SatFault.{SatFault}
use Rattle.span_bisect.specs.declared.answer.TrackAnswer.{TrackAnswer}

-- something that only an accepted satellite has
abbrev pub where_accepted : {A : Type 0} → Option SatFault → A → Option A
where_accepted None a = Some a
where_accepted (Some fault) a = None

-- the set of the craft of a satellite, which has one where it is accepted
abbrev pub craft_of : Option SatState → Option ElementsRecord
craft_of None = None
craft_of (Some satellite) = where_accepted satellite.fate satellite.set

-- the answer for its light
abbrev pub lit_of : Option SatState → Option TrackAnswer
lit_of None = None
lit_of (Some satellite) = where_accepted satellite.fate satellite.lit

-- the answer at a place of these, where the satellite is accepted
abbrev pub pair_by : Option SatFault → List TrackAnswer → ℕ → Option TrackAnswer
pair_by None pairs station = slice_get pairs station
pair_by (Some fault) pairs station = None

-- its answer at a station
abbrev pub pair_of : Option SatState → ℕ → Option TrackAnswer
pair_of None station = None
pair_of (Some satellite) station = pair_by satellite.fate satellite.pairs station

-- a satellite as it is listed
abbrev pub listed : SatState → SatRow
listed satellite = record { number = satellite.set.number; name = satellite.name; fate = satellite.fate }

-- A satellite whose fate is known, with a place for the answer of each station where it is accepted.
pub record IsReady (setting : SettingRecord) (satellite : SatState) : Type 0 where
  pub number : satellite.set.number < 2 ^ 32
  pub name : IsName satellite.name
  pub fate : IsFate setting.window satellite.set satellite.fate
  pub places : satellite.fate ≡ None → length satellite.pairs ≡ length setting.stations.rows
