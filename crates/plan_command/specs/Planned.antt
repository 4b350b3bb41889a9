-- The command `plan`, and what it certifies.
use Rattle.std.specs.Prelude.{ℕ, List, Ok, Option}
use Rattle.catalogue.specs.declared.entry.Entry.{Entry}
use Rattle.elements.specs.Window.{WindowRecord}
use Rattle.plan_command.specs.NoneLost.{LosesNoContact}
use Rattle.plan_command.specs.Parts.{plan_text}
use Rattle.plan_command.specs.Resolved.{IsResolved}
use Rattle.plan_core.specs.Certificate.{IsPlanOf, SettingRecord}
use Rattle.plan_core.specs.State.{PlanState, plan_record}
use Rattle.plan_text.specs.Plan.{PlanRecord, most_spans}
use Rattle.run_ends.specs.Files.{IsAnswerOf, catalogue_and_stations, catalogue_at}
use Rattle.run_ends.specs.Runs.{Command}
use Rattle.station_file.specs.Rows.{StationsRecord}
use Rattle.station_file.specs.StationFile.{station_value}

-- stations and a window
abbrev pub setting_of : StationsRecord → WindowRecord → SettingRecord
setting_of stations window = record { stations = stations; window = window }

-- the plan is certified for satellites, stations and a window, and loses no contact
pub record IsPlanFor (satellites : List Entry) (stations : StationsRecord) (window : WindowRecord) (plan : PlanState) : Type 0 where
  pub certified : IsPlanOf most_spans satellites (setting_of stations window) (plan_record plan)
  pub none_lost : LosesNoContact satellites (setting_of stations window) (plan_record plan)

-- The plan is of the satellites of a file, by their sets that are nearest to the window's start, of the stations of a file with
-- their offset, and of the window. It lists each satellite in order, as one that is refused for a fault that it may be refused
-- for; or as one that may be accepted, with a row of its light and a row of each station in order. Each such row is certified:
-- its spans tile the window in order; at every instant of a sunlit or visible (dark or hidden) span a solution exists and every
-- solution is sunlit or above the mask (dark or below it); undecided spans are no longer than the resolution and only graze; an
-- unresolved stretch grazes throughout; a row decays only where some record sinks, and is full only where 1,048,576 spans were
-- used up. So a row whose track grazes throughout no stretch of one tick more than the resolution, and sinks nowhere, is
-- spans, or full; and no contact is lost: in a row that is spans, what is longer than the resolution, and at each instant of
-- which some solution is above the mask, has an instant in common with a visible span.
pub record IsPlannedAt (catalogue stations : Option (List ℕ)) (window : WindowRecord) (plan : PlanRecord) : Type 0 where
  pub entries : List Entry
  pub places : StationsRecord
  pub of_catalogue : IsAnswerOf (catalogue_at window.start) catalogue (Ok entries)
  pub of_stations : IsAnswerOf station_value stations (Ok places)
  pub certified : IsPlanOf most_spans entries (setting_of places window) plan
  pub resolved : IsResolved entries (setting_of places window) plan
  pub none_lost : LosesNoContact entries (setting_of places window) plan

-- the command: it reads a catalogue and stations, plans the satellites of the one over the others in a window, and prints the
-- plan
abbrev pub plan_of : List ℕ → List ℕ → WindowRecord → Command PlanState
plan_of catalogue stations window = record {
  files = catalogue_and_stations catalogue window.start stations;
  is_product = λ held plan. IsPlannedAt (held catalogue) (held stations) window (plan_record plan);
  layout = plan_text;
}
