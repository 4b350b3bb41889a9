-- What the command `plan` prints of a plan.
use Rattle.std.specs.Prelude.{ℕ, List, ◌++◌, codes}
use Rattle.pass_text.specs.DayLayout.{window_line}
use Rattle.plan_text.specs.HeadLines.{offset_lines, station_lines}
use Rattle.plan_text.specs.Plan.{PlanRecord}
use Rattle.plan_text.specs.RowLines.{row_blocks}
use Rattle.plan_text.specs.SatLine.{sat_lines}
use Rattle.plan_text.specs.TableLines.{table_blocks}

-- the timetables and the end
abbrev pub plan_tail : PlanRecord → List ℕ
plan_tail plan = table_blocks plan 0 plan.stations ++ codes "END\n"

-- the whole text: the heading, the window, the offset, the stations, the satellites, their rows, the timetables, the end
abbrev pub plan_layout : PlanRecord → List ℕ
plan_layout plan =
    codes "PASSPLAN 1\n"
    ++ (window_line plan.window
    ++ (offset_lines plan.offset
    ++ (station_lines 1 plan.stations
    ++ (sat_lines plan.satellites
    ++ (row_blocks plan.window.start plan.satellites ++ plan_tail plan)))))
