-- A certified plan of the generated satellites, with its counts, is the product.
use Rattle.std.proofs.Common.{arith, ℕ, ◌∙◌, ap}
use Rattle.grid_command.specs.Counted.{CountedRecord, IsCountedAt, IsCountedPlan}
use Rattle.grid_command.specs.Generated.{hour, satellites, setting, stations}
use Rattle.grid_command.proofs.GeneratedLemmas.{how_many}
use Rattle.grid_command.proofs.TickLemmas.{ticks_add_up}
use Rattle.plan_command.proofs.LawLemmas.{clear_rows_are_resolved, plans_list_each_satellite}
use Rattle.plan_command.specs.Planned.{IsPlanFor}
use Rattle.plan_core.specs.State.{plan_record}
use Rattle.plan_text.specs.Plan.{most_spans}
use Rattle.plan_text.specs.declared.summary.Summary.{Summary}

pub is_counted : (count : ℕ) (counted : CountedRecord) → IsPlanFor (satellites count) stations hour counted.plan → IsCountedPlan counted → IsCountedAt count counted
is_counted count counted h e =
    let plan = plan_record counted.plan in
    let many = (plans_list_each_satellite most_spans (satellites count) setting plan h.certified).count ∙ how_many count in
    let ticks = ticks_add_up most_spans (satellites count) setting plan counted.plan.cells h.certified in
    record {
      certified = h;
      resolved = clear_rows_are_resolved most_spans (satellites count) setting plan h.certified;
      summary = e;
      sats = ap (λ (s : Summary). s.sats) e ∙ many;
      ticks = rw e (omega (arith, ticks));
    }
