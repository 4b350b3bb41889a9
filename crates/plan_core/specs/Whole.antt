-- When a plan is whole.
use Rattle.std.specs.Prelude.{Bool, true, false, ◌&&◌, List, Option, None, Some}
use Rattle.std.specs.List.{list_all}
use Rattle.plan_text.specs.Plan.{PlanRecord, RowRecord, SatelliteRecord, StandingRecord, planned, refused}
use Rattle.plan_core.specs.State.{SatState}
use Rattle.sgp4_shape.specs.declared.fault.SatFault.{SatFault}
use Rattle.span_bisect.specs.Answer.{answer_record}
use Rattle.span_bisect.specs.declared.answer.TrackAnswer.{TrackAnswer}
use Rattle.sgp4_model.specs.Records.{AnswerRecord, spans, unresolved, full, decays}

-- the answer is spans
abbrev pub is_spans : AnswerRecord → Bool
is_spans (spans count) = true
is_spans (unresolved from to) = false
is_spans (full at) = false
is_spans (decays at) = false

-- so are all rows of a satellite that is not refused
abbrev pub is_resolved : StandingRecord → Bool
is_resolved (refused fault) = false
is_resolved (planned lit pairs) = is_spans lit.answer && list_all (λ (row : RowRecord). is_spans row.answer) pairs

-- no satellite is refused, and every row is spans
abbrev pub is_whole : PlanRecord → Bool
is_whole plan = list_all (λ (satellite : SatelliteRecord). is_resolved satellite.standing) plan.satellites

-- a satellite of such a fate is accepted, and these answers are spans
abbrev pub are_spans : Option SatFault → TrackAnswer → List TrackAnswer → Bool
are_spans None lit pairs = is_spans (answer_record lit) && list_all (λ (answer : TrackAnswer). is_spans (answer_record answer)) pairs
are_spans (Some fault) lit pairs = false

-- this of a satellite
abbrev pub has_spans_alone : SatState → Bool
has_spans_alone satellite = are_spans satellite.fate satellite.lit satellite.pairs
