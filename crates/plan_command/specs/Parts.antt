-- What is printed of the parts of a plan, as the plan holds them.
use Rattle.std.specs.Prelude.{ℕ, List, [], All, Option, None, Some}
use Rattle.plan_core.specs.State.{PlanState, SatState, plan_record, row_of, satellite_of, standing_by}
use Rattle.plan_text.specs.Plan.{IsRow, IsWithin, RowRecord, pairs_of}
use Rattle.plan_text.specs.PlanLayout.{plan_layout}
use Rattle.plan_text.specs.RowLines.{lines_after, lit_block, pair_block, pair_blocks, row_blocks, span_lines, standing_blocks}
use Rattle.plan_text.specs.TableLines.{table_blocks}
use Rattle.sgp4_model.specs.declared.span.Mark.{Mark}
use Rattle.span_bisect.specs.Answer.{IsHeld, answer_record, answer_spans}
use Rattle.span_bisect.specs.declared.answer.TrackAnswer.{TrackAnswer}
use Rattle.span_pool.specs.Pool.{Holds, list_of}
use Rattle.span_pool.specs.declared.track.Track.{Track}

-- the plan holds the track of an answer, and its row lies in the window
pub record IsItsAnswer (plan : PlanState) (answer : TrackAnswer) : Type 0 where
  pub held : IsHeld plan.pool answer
  pub row : IsRow plan.setting.window.ticks (row_of plan.pool answer)

-- the plan holds a track, and its spans lie in the window
pub record IsItsTrack (plan : PlanState) (track : Track) : Type 0 where
  pub held : Holds plan.pool track
  pub within : All (IsWithin plan.setting.window.ticks) (list_of plan.pool track)

-- the row of a light
abbrev pub light_text : PlanState → ℕ → TrackAnswer → List ℕ
light_text plan number answer = lit_block plan.setting.window.start number (row_of plan.pool answer)

-- the row of a station with an index
abbrev pub pair_text : PlanState → ℕ → ℕ → TrackAnswer → List ℕ
pair_text plan number index answer = pair_block plan.setting.window.start number index (row_of plan.pool answer)

-- the lines that follow an answer
abbrev pub after_text : (Mark → List ℕ) → PlanState → TrackAnswer → List ℕ
after_text letter plan answer =
    lines_after letter plan.setting.window.start (answer_record answer) (answer_spans plan.pool answer)

-- a line for each span of a track
abbrev pub spans_text : (Mark → List ℕ) → PlanState → Track → List ℕ
spans_text letter plan track = span_lines letter plan.setting.window.start (list_of plan.pool track)

-- the rows of the stations, of a satellite if there is one
abbrev pub pair_rows : PlanState → Option SatState → List RowRecord
pair_rows plan None = []
pair_rows plan (Some satellite) =
    pairs_of (standing_by plan.pool satellite.lit satellite.pairs satellite.fate)

-- these rows
abbrev pub pairs_text : PlanState → ℕ → Option SatState → List ℕ
pairs_text plan number satellite = pair_blocks plan.setting.window.start number 1 (pair_rows plan satellite)

-- the rows of a satellite, if there is one
abbrev pub satellite_text : PlanState → Option SatState → List ℕ
satellite_text plan None = []
satellite_text plan (Some satellite) =
    standing_blocks plan.setting.window.start satellite.set.number (satellite_of plan.pool satellite).standing

-- the rows of each satellite
abbrev pub rows_text : PlanState → List ℕ
rows_text plan = row_blocks plan.setting.window.start (plan_record plan).satellites

-- the timetable of each station
abbrev pub tables_text : PlanState → List ℕ
tables_text plan = table_blocks (plan_record plan) 0 (plan_record plan).stations

-- the whole text
abbrev pub plan_text : PlanState → List ℕ
plan_text plan = plan_layout (plan_record plan)
