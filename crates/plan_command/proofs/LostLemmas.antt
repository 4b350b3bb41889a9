-- No contact of a certified plan is lost.
use Rattle.std.proofs.Common.{List, Ok, Err, IfOk, Result}
use Rattle.catalogue.specs.declared.entry.Entry.{Entry}
use Rattle.elements.specs.Window.{WindowRecord}
use Rattle.plan_command.specs.NoneLost.{PlansLoseNoContact}
use Rattle.plan_command.specs.Planned.{IsPlanFor, setting_of}
use Rattle.plan_command.proofs.RowLemmas.{pair_is_certified}
use Rattle.plan_core.specs.Certificate.{IsPlanOf}
use Rattle.plan_core.specs.State.{PlanState, plan_record}
use Rattle.plan_core.proofs.NoneLostLemmas.{long_contacts_are_visible, station_in_range}
use Rattle.plan_text.specs.Plan.{most_spans}
use Rattle.station_file.specs.Rows.{AreStations, StationsRecord}

pub plans_lose_no_contact : PlansLoseNoContact
plans_lose_no_contact slots entries setting plan are h entry station row is =
    let certified = pair_is_certified slots entries setting plan h entry station row is in
    long_contacts_are_visible setting entry.elements station slots certified.0 row.answer row.list
    (station_in_range setting.stations is.place station are is.station_is) certified.1

pub planned_for : {E : Type 0} (satellites : List Entry) (places : StationsRecord) (window : WindowRecord) (result : Result PlanState E) → AreStations places →
    IfOk result (λ plan. IsPlanOf most_spans satellites (setting_of places window) (plan_record plan)) → IfOk result (IsPlanFor satellites places window)
planned_for satellites places window (Ok plan) are h = record {
  certified = h;
  none_lost = plans_lose_no_contact most_spans satellites (setting_of places window) (plan_record plan) are h;
}
planned_for satellites places window (Err want) are h = h
