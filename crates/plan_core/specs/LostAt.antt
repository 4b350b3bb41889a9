-- That a planner loses no contact of a satellite at a station.
use Rattle.std.specs.Prelude.{◌≡◌, ℕ, List, slice_get, Some}
use Rattle.catalogue.specs.declared.entry.Entry.{Entry}
use Rattle.plan_core.specs.NoneLost.{LosesNone}
use Rattle.plan_core.specs.State.{PlannerState}
use Rattle.sgp4_model.specs.declared.span.Span.{Span}
use Rattle.span_bisect.specs.Answer.{answer_record}
use Rattle.span_bisect.specs.declared.answer.TrackAnswer.{TrackAnswer}
use Rattle.station_file.specs.declared.row.StationRow.{StationRow}

-- the answer for a satellite at a station, by their places, and its spans lose no contact
abbrev pub LosesNoneAt : PlannerState → ℕ → ℕ → TrackAnswer → List Span → Type 0
LosesNoneAt planner sat station answer list =
    (entry : Entry) (row : StationRow) → slice_get planner.entries sat ≡ Some entry →
    slice_get planner.setting.stations.rows station ≡ Some row →
    LosesNone planner.setting entry.elements row (answer_record answer) list
