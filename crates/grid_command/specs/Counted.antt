-- The product of the command `grid`, and what it certifies.
use Rattle.std.specs.Prelude.{◌≡◌, ℕ, ◌+◌, ◌-◌, ◌*◌, ◌==◌, ◌&&◌, Bool, List}
use Rattle.grid_command.specs.Generated.{satellites, hour, setting, stations}
use Rattle.grid_command.specs.TickLaw.{other_pairs, span_ticks}
use Rattle.plan_command.specs.Planned.{IsPlanFor}
use Rattle.plan_command.specs.Resolved.{IsResolved}
use Rattle.plan_core.specs.State.{PlanState, plan_record}
use Rattle.plan_text.specs.GridLayout.{grid_layout}
use Rattle.plan_text.specs.Summary.{summary_of}
use Rattle.plan_text.specs.declared.summary.Summary.{Summary}
use Rattle.run_ends.specs.Files.{no_file}
use Rattle.run_ends.specs.Runs.{Command}

-- a plan and its counts
pub record CountedRecord : Type 0 where
  pub plan : PlanState
  pub summary : Summary

-- the counts of a plan, and how many verdicts were asked for
abbrev pub counts_of : PlanState → Summary
counts_of plan = summary_of (plan_record plan) plan.cells

-- the counts are those of the plan
abbrev pub IsCountedPlan : CountedRecord → Type 0
IsCountedPlan counted = counted.summary ≡ counts_of counted.plan

-- what is printed of it: the counts
abbrev pub grid_text : CountedRecord → List ℕ
grid_text counted = grid_layout counted.summary

-- no satellite is refused, and each pair is spans; rows of light do not count
abbrev pub is_whole : Summary → Bool
is_whole s = s.refused == 0 && s.unresolved == 0 && s.full == 0 && s.decays == 0

-- The plan is of the first so many generated satellites over the two stations in the hour, each row certified as that of the
-- command `plan` is, so that a row whose track is clear is resolved; and what is counted is counted of this plan. So all the
-- satellites are there, and the ticks of all spans, with a whole hour for each pair that is not spans, are two hours for each
-- satellite that is not refused.
pub record IsCountedAt (count : ℕ) (counted : CountedRecord) : Type 0 where
  pub certified : IsPlanFor (satellites count) stations hour counted.plan
  pub resolved : IsResolved (satellites count) setting (plan_record counted.plan)
  pub summary : IsCountedPlan counted
  pub sats : counted.summary.sats ≡ count
  pub ticks : span_ticks counted.summary + 36_000_000 * other_pairs counted.summary
      ≡ 72_000_000 * (counted.summary.sats - counted.summary.refused)

-- the command: it reads no file, plans the generated satellites, and prints the counts
abbrev pub grid : ℕ → Command CountedRecord
grid count = record { files = no_file; is_product = λ held counted. IsCountedAt count counted; layout = grid_text }
