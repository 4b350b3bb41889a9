-- Contacts that are longer than the resolution, and the visible spans that they meet.
use Rattle.std.specs.Prelude.{◌≡◌, ℕ, pos, List, Contains}
use Rattle.elements.specs.Elements.{ElementsRecord, record_of_elements}
use Rattle.exact.specs.Rational.{ℚ, of_int, zero_ℚ, ◌+ℚ◌, ◌≤ℚ◌, ◌<ℚ◌}
use Rattle.plan_core.specs.Certificate.{SettingRecord, sight_of}
use Rattle.sgp4_model.specs.Certified.{IsCertified}
use Rattle.sgp4_model.specs.Grazing.{IsVisible}
use Rattle.sgp4_model.specs.Records.{AnswerRecord, spans}
use Rattle.sgp4_model.specs.Solution.{IsSolution, SolutionRecord}
use Rattle.sgp4_model.specs.Time.{IsWithin, instant_of_place}
use Rattle.sgp4_model.specs.declared.span.Mark.TheVariants.{Yes}
use Rattle.sgp4_model.specs.declared.span.Span.{Span}
use Rattle.station_file.specs.Rows.{IsStationRow, record_of_station}
use Rattle.station_file.specs.declared.row.StationRow.{StationRow}

module _ (setting : SettingRecord) (set : ElementsRecord) (station : StationRow) where
  -- some solution of the set and the station is above the mask at a place of the window
  pub record IsAboveAt (place : ℚ) : Type 0 where
    pub solution : SolutionRecord
    pub solves : IsSolution (record_of_elements set) (record_of_station station)
        (instant_of_place setting.window.start place) setting.stations.dut1 solution
    pub above : IsVisible solution

  -- from one place of the window to another, which is later by more than the resolution, some solution is above the mask
  pub record IsLongContact (from to : ℚ) : Type 0 where
    pub begins : zero_ℚ ≤ℚ from
    pub longer : from +ℚ of_int (pos setting.window.resolution) <ℚ to
    pub ends : to ≤ℚ of_int (pos setting.window.ticks)
    pub above : (place : ℚ) → from ≤ℚ place → place ≤ℚ to → IsAboveAt place

-- some place between two lies in a visible span of a list
pub record MeetsVisible (list : List Span) (from to : ℚ) : Type 0 where
  pub span : Span
  pub listed : Contains list span
  pub visible : span.mark ≡ Yes
  pub place : ℚ
  pub after : from ≤ℚ place
  pub before : place ≤ℚ to
  pub within : IsWithin span.from span.to place

-- no contact that is longer than the resolution is lost: where the answer is spans, each meets a visible one
abbrev pub LosesNone : SettingRecord → ElementsRecord → StationRow → AnswerRecord → List Span → Type 0
LosesNone setting set station answer list =
    (count : ℕ) → answer ≡ spans count → (from to : ℚ) → IsLongContact setting set station from to → MeetsVisible list from to

-- a certified row of a satellite at a station loses none
abbrev pub LongContactsAreVisible : Type 0
LongContactsAreVisible =
    (setting : SettingRecord) (set : ElementsRecord) (station : StationRow) (slots used : ℕ) (answer : AnswerRecord) (list : List Span) →
    IsStationRow station → IsCertified (sight_of setting set station) setting.window.resolution slots used answer list →
    LosesNone setting set station answer list
