-- Laws of certified plans: the certificate told satellite by satellite, row by row and span by span.
use Rattle.std.specs.Prelude.{◌≡◌, ℕ, ◌+◌, ◌≤◌, List, length, slice_get, All, Some}
use Rattle.catalogue.specs.declared.entry.Entry.{Entry}
use Rattle.elements.specs.Elements.{record_of_elements}
use Rattle.exact.specs.Rational.{ℚ}
use Rattle.plan_command.specs.Resolved.{IsResolved}
use Rattle.plan_command.specs.Rows.{IsLightRow, IsPairRow, OfEachRow}
use Rattle.plan_core.specs.Certificate.{IsCertifiedRow, IsPlanOf, SettingRecord, end_of}
use Rattle.plan_text.specs.Plan.{PlanRecord, RowRecord, SatelliteRecord, StandingRecord, planned, refused}
use Rattle.sgp4_model.specs.EachSolution.{OfEach}
use Rattle.sgp4_model.specs.Grazing.{GrazesMask, IsHidden, IsVisible}
use Rattle.sgp4_model.specs.Light.{GrazesShadow, IsDark, IsSunlit, ShadowRecord}
use Rattle.sgp4_model.specs.LitSolution.{IsLitSolution}
use Rattle.sgp4_model.specs.Solution.{IsSolution, SolutionRecord}
use Rattle.sgp4_model.specs.Time.{IsWithin, instant_of_place}
use Rattle.sgp4_model.specs.declared.span.Mark.TheVariants.{Yes, No, Undecided}
use Rattle.sgp4_model.specs.declared.span.Span.{Span}
use Rattle.sgp4_motion.specs.Fate.{MayAccept, MayRefuse}
use Rattle.station_file.specs.Rows.{record_of_station}
use Rattle.station_file.specs.declared.row.StationRow.{StationRow}

-- the satellite may be refused for its fault; or it may be accepted, and has as many rows as there are stations
abbrev pub IsOfFate : SettingRecord → Entry → StandingRecord → Type 0
IsOfFate setting entry (refused fault) =
    MayRefuse (record_of_elements entry.elements) setting.window.start (end_of setting.window) fault
IsOfFate setting entry (planned light pairs) =
    MayAccept (record_of_elements entry.elements) setting.window.start (end_of setting.window)
    × (length pairs ≡ length setting.stations.rows)

-- the satellite is listed as that of an entry
pub record IsListed (setting : SettingRecord) (entry : Entry) (satellite : SatelliteRecord) : Type 0 where
  pub number : satellite.number ≡ entry.elements.number
  pub name : satellite.name ≡ entry.name
  pub fate : IsOfFate setting entry satellite.standing

-- each satellite is listed at its place, and no other
pub record ListsEach (entries : List Entry) (setting : SettingRecord) (plan : PlanRecord) : Type 0 where
  pub count : length plan.satellites ≡ length entries
  pub each : (k : ℕ) (entry : Entry) (satellite : SatelliteRecord) → slice_get entries k ≡ Some entry →
      slice_get plan.satellites k ≡ Some satellite → IsListed setting entry satellite

-- a solution of the set of an entry and of a station at a place of the window
abbrev pub IsSolutionAt : SettingRecord → Entry → StationRow → ℚ → SolutionRecord → Type 0
IsSolutionAt setting entry station place s =
    IsSolution (record_of_elements entry.elements) (record_of_station station)
    (instant_of_place setting.window.start place) setting.stations.dut1 s

-- a lit solution of the set of an entry at a place of the window
abbrev pub IsLitSolutionAt : SettingRecord → Entry → ℚ → ShadowRecord → Type 0
IsLitSolutionAt setting entry place v =
    IsLitSolution (record_of_elements entry.elements) (instant_of_place setting.window.start place) v

-- a span of a row at a station is true: at every place of a visible (hidden) span a solution exists and every one is above
-- (below) the mask; an undecided span is no longer than the resolution, and at every place of it every solution grazes
pub record IsTrueOfSight (setting : SettingRecord) (entry : Entry) (station : StationRow) (span : Span) : Type 0 where
  pub visible : span.mark ≡ Yes → (place : ℚ) → IsWithin span.from span.to place →
      OfEach (IsSolutionAt setting entry station place) IsVisible
  pub hidden : span.mark ≡ No → (place : ℚ) → IsWithin span.from span.to place →
      OfEach (IsSolutionAt setting entry station place) IsHidden
  pub undecided : span.mark ≡ Undecided → (place : ℚ) → IsWithin span.from span.to place →
      OfEach (IsSolutionAt setting entry station place) GrazesMask
  pub short : span.mark ≡ Undecided → span.to ≤ span.from + setting.window.resolution

-- a span of a row of a light is true, likewise
pub record IsTrueOfLight (setting : SettingRecord) (entry : Entry) (span : Span) : Type 0 where
  pub sunlit : span.mark ≡ Yes → (place : ℚ) → IsWithin span.from span.to place →
      OfEach (IsLitSolutionAt setting entry place) IsSunlit
  pub dark : span.mark ≡ No → (place : ℚ) → IsWithin span.from span.to place →
      OfEach (IsLitSolutionAt setting entry place) IsDark
  pub undecided : span.mark ≡ Undecided → (place : ℚ) → IsWithin span.from span.to place →
      OfEach (IsLitSolutionAt setting entry place) GrazesShadow
  pub short : span.mark ≡ Undecided → span.to ≤ span.from + setting.window.resolution

-- a plan lists each satellite of its catalogue
abbrev pub PlansListEachSatellite : Type 0
PlansListEachSatellite =
    (slots : ℕ) (entries : List Entry) (setting : SettingRecord) (plan : PlanRecord) →
    IsPlanOf slots entries setting plan → ListsEach entries setting plan

-- each row of a plan is certified, where some number of spans came before it
abbrev pub RowsAreCertified : Type 0
RowsAreCertified =
    (slots : ℕ) (entries : List Entry) (setting : SettingRecord) (plan : PlanRecord) → IsPlanOf slots entries setting plan →
    OfEachRow entries setting plan (λ track row. (used : ℕ) × IsCertifiedRow track setting.window.resolution slots used row)

-- each row of a plan is resolved where its track is clear
abbrev pub ClearRowsAreResolved : Type 0
ClearRowsAreResolved =
    (slots : ℕ) (entries : List Entry) (setting : SettingRecord) (plan : PlanRecord) →
    IsPlanOf slots entries setting plan → IsResolved entries setting plan

-- each span of a satellite at a station is true
abbrev pub PairSpansAreTrue : Type 0
PairSpansAreTrue =
    (slots : ℕ) (entries : List Entry) (setting : SettingRecord) (plan : PlanRecord) → IsPlanOf slots entries setting plan →
    (entry : Entry) (station : StationRow) (row : RowRecord) → IsPairRow entries setting.stations.rows plan entry station row →
    All (IsTrueOfSight setting entry station) row.list

-- each span of a satellite's light is true
abbrev pub LightSpansAreTrue : Type 0
LightSpansAreTrue =
    (slots : ℕ) (entries : List Entry) (setting : SettingRecord) (plan : PlanRecord) → IsPlanOf slots entries setting plan →
    (entry : Entry) (row : RowRecord) → IsLightRow entries plan entry row → All (IsTrueOfLight setting entry) row.list
