-- A plan in plain words: its window, its stations, its satellites, and the rows of each.
use Rattle.std.specs.Prelude.{◌≡◌, ℕ, ◌<◌, ◌≤◌, ◌^◌, ℤ, List, [], length, All, Option, None, Some, ⊤}
use Rattle.jiff_core.specs.Calendar.{IsWithin as IsFromMinus}
use Rattle.catalogue.specs.Entries.{IsName, most_entries}
use Rattle.elements.specs.Window.{WindowRecord, IsWindow}
use Rattle.sgp4_model.specs.declared.span.Span.{Span}
use Rattle.station_file.specs.Rows as stations
use Rattle.sgp4_model.specs.Records.{AnswerRecord, spans, unresolved, full, decays}
use Rattle.sgp4_shape.specs.declared.fault.SatFault.{SatFault}

-- a row: its answer, and its spans in order
pub record RowRecord : Type 0 where
  pub answer : AnswerRecord
  pub list : List Span

-- what is made of a satellite: it is refused; or it has the row of its light, and a row of each station,
-- in the order of the stations
pub data StandingRecord : Type 0 where
  refused : SatFault → StandingRecord
  planned : RowRecord → List RowRecord → StandingRecord

-- a satellite: its catalogue number, its name, and what is made of it
pub record SatelliteRecord : Type 0 where
  pub number : ℕ
  pub name : List ℕ
  pub standing : StandingRecord

-- a plan: its window, by how many milliseconds UT1 is ahead of UTC, the names of its stations, and its satellites
pub record PlanRecord : Type 0 where
  pub window : WindowRecord
  pub offset : ℤ
  pub stations : List (List ℕ)
  pub satellites : List SatelliteRecord

-- why the satellite is refused, where it is
abbrev pub fate_of : StandingRecord → Option SatFault
fate_of (refused fate) = Some fate
fate_of (planned lit pairs) = None

-- its rows of the stations
abbrev pub pairs_of : StandingRecord → List RowRecord
pairs_of (refused fate) = []
pairs_of (planned lit pairs) = pairs

-- the most spans of a plan
abbrev pub most_spans : ℕ
most_spans = 1_048_576

-- a span lies in a window of so many ticks
pub record IsWithin (ticks : ℕ) (span : Span) : Type 0 where
  pub from : span.from ≤ ticks
  pub to : span.to ≤ ticks

-- so do the ticks of an answer
abbrev pub AnswerIsWithin : ℕ → AnswerRecord → Type 0
AnswerIsWithin ticks (spans count) = ⊤
AnswerIsWithin ticks (unresolved from to) = (from ≤ ticks) × (to ≤ ticks)
AnswerIsWithin ticks (full at) = at ≤ ticks
AnswerIsWithin ticks (decays at) = at ≤ ticks

-- the answer counts the spans, and there are none where it says why
abbrev pub IsCounted : AnswerRecord → List Span → Type 0
IsCounted (spans count) list = count ≡ length list
IsCounted (unresolved from to) list = list ≡ []
IsCounted (full at) list = list ≡ []
IsCounted (decays at) list = list ≡ []

-- a row of a window of so many ticks
pub record IsRow (ticks : ℕ) (row : RowRecord) : Type 0 where
  pub answer : AnswerIsWithin ticks row.answer
  pub counted : IsCounted row.answer row.list
  pub most : length row.list ≤ most_spans
  pub spans : All (IsWithin ticks) row.list

-- a satellite that is planned has a row of its light, and one for each station
abbrev pub HasRows : ℕ → ℕ → StandingRecord → Type 0
HasRows ticks stations (refused fate) = ⊤
HasRows ticks stations (planned lit pairs) = IsRow ticks lit × All (IsRow ticks) pairs × (length pairs ≡ stations)

-- a satellite of a window of so many ticks and of so many stations
pub record IsSatellite (ticks stations : ℕ) (satellite : SatelliteRecord) : Type 0 where
  pub number : satellite.number < 2 ^ 32
  pub name : IsName satellite.name
  pub rows : HasRows ticks stations satellite.standing

-- what every plan keeps
pub record IsPlan (plan : PlanRecord) : Type 0 where
  pub window : IsWindow plan.window
  pub offset : IsFromMinus 900 plan.offset
  pub least : 1 ≤ length plan.stations
  pub most : length plan.stations ≤ 64
  pub names : All stations.IsName plan.stations
  pub few : length plan.satellites ≤ most_entries
  pub satellites : All (IsSatellite plan.window.ticks (length plan.stations)) plan.satellites
