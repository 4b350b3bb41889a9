-- No contact of a plan is lost.
use Rattle.std.specs.Prelude.{ℕ, List}
use Rattle.catalogue.specs.declared.entry.Entry.{Entry}
use Rattle.plan_command.specs.Rows.{IsPairRow}
use Rattle.plan_core.specs.Certificate.{IsPlanOf, SettingRecord}
use Rattle.plan_core.specs.NoneLost.{LosesNone}
use Rattle.plan_text.specs.Plan.{PlanRecord, RowRecord}
use Rattle.station_file.specs.Rows.{AreStations}
use Rattle.station_file.specs.declared.row.StationRow.{StationRow}

-- in each row of a station that is spans, each contact that is longer than the resolution meets a visible span
abbrev pub LosesNoContact : List Entry → SettingRecord → PlanRecord → Type 0
LosesNoContact entries setting plan =
    (entry : Entry) (station : StationRow) (row : RowRecord) → IsPairRow entries setting.stations.rows plan entry station row →
    LosesNone setting entry.elements station row.answer row.list

-- a certified plan over stations in their ranges loses none
abbrev pub PlansLoseNoContact : Type 0
PlansLoseNoContact =
    (slots : ℕ) (entries : List Entry) (setting : SettingRecord) (plan : PlanRecord) → AreStations setting.stations →
    IsPlanOf slots entries setting plan → LosesNoContact entries setting plan
