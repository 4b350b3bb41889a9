-- The lines at the head of what is printed of a plan.
use Rattle.std.specs.Prelude.{ℕ, List, ◌++◌}
use Rattle.pass_text.specs.DayLayout.{window_line}
use Rattle.plan_text.specs.HeadLines.{offset_lines, station_lines}
use Rattle.plan_text.specs.Plan.{PlanRecord}
use Rattle.plan_text.specs.SatLine.{sat_lines}

-- the window, the offset where it is not 0, the stations, the satellites
abbrev pub head_lines : PlanRecord → List ℕ
head_lines plan =
    window_line plan.window
    ++ (offset_lines plan.offset ++ (station_lines 1 plan.stations ++ sat_lines plan.satellites))
