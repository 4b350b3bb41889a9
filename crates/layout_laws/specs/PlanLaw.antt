-- What is printed of a plan tells the plan.
use Rattle.std.specs.Prelude.{◌≡◌, map}
use Rattle.plan_text.specs.HeadLines.{printed_name}
use Rattle.plan_text.specs.Plan.{PlanRecord, IsPlan}
use Rattle.plan_text.specs.PlanLayout.{plan_layout}

-- two plans are the same but for bytes of the stations' names that are printed alike: their windows, their offsets, the
-- printed names of their stations, and their satellites: numbers, names, and fates or rows of answers and spans
pub record IsSamePlan (a b : PlanRecord) : Type 0 where
  pub window : a.window ≡ b.window
  pub offset : a.offset ≡ b.offset
  pub stations : map printed_name a.stations ≡ map printed_name b.stations
  pub satellites : a.satellites ≡ b.satellites

-- plans of one text are the same
abbrev pub LayoutsTellPlans : Type 0
LayoutsTellPlans = (a b : PlanRecord) → IsPlan a → IsPlan b → plan_layout a ≡ plan_layout b → IsSamePlan a b
