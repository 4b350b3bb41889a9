-- What is counted of a plan.
use Rattle.std.specs.Prelude.{ℕ, ◌-◌, Bool, true, false, List, length}
use Rattle.std.specs.List.{filter, flat_map, sum_by, count_by}
use Rattle.sgp4_model.specs.declared.span.Mark.{Mark}
use Rattle.sgp4_model.specs.declared.span.Mark.TheVariants.{Yes, No, Undecided}
use Rattle.sgp4_model.specs.declared.span.Span.{Span}
use Rattle.sgp4_model.specs.Records.{AnswerRecord, spans, unresolved, full, decays}
use Rattle.plan_text.specs.declared.summary.Summary.{Summary}
use Rattle.plan_text.specs.Plan.{RowRecord, SatelliteRecord, StandingRecord, PlanRecord, refused, planned, pairs_of}
use Rattle.plan_text.specs.Timetable.{is_visible}

-- the satellite is refused
abbrev pub is_refused : StandingRecord → Bool
is_refused (refused fate) = true
is_refused (planned lit pairs) = false

-- the mark says that the satellite is hidden
abbrev pub is_hidden : Mark → Bool
is_hidden Yes = false
is_hidden No = true
is_hidden Undecided = false

-- it says neither
abbrev pub is_undecided : Mark → Bool
is_undecided Yes = false
is_undecided No = false
is_undecided Undecided = true

-- an answer of each kind that is not spans
abbrev pub is_unresolved : AnswerRecord → Bool
is_unresolved (spans count) = false
is_unresolved (unresolved from to) = true
is_unresolved (full at) = false
is_unresolved (decays at) = false

abbrev pub is_full : AnswerRecord → Bool
is_full (spans count) = false
is_full (unresolved from to) = false
is_full (full at) = true
is_full (decays at) = false

abbrev pub is_decaying : AnswerRecord → Bool
is_decaying (spans count) = false
is_decaying (unresolved from to) = false
is_decaying (full at) = false
is_decaying (decays at) = true

-- all pair rows of a plan
abbrev pub pair_rows : PlanRecord → List RowRecord
pair_rows plan = flat_map (λ (satellite : SatelliteRecord). pairs_of satellite.standing) plan.satellites

-- their spans of which the mark is as asked for
abbrev pub marked_spans : (Mark → Bool) → PlanRecord → List Span
marked_spans test plan = filter (λ (span : Span). test span.mark) (flat_map (λ (row : RowRecord). row.list) (pair_rows plan))

-- how many ticks some spans have together
abbrev pub ticks_of : List Span → ℕ
ticks_of list = sum_by (λ (span : Span). span.to - span.from) list

-- how many pair rows have such an answer
abbrev pub pairs_that : (AnswerRecord → Bool) → PlanRecord → ℕ
pairs_that test plan = count_by (λ (row : RowRecord). test row.answer) (pair_rows plan)

-- the counts of a plan in which so many verdicts were asked for
abbrev pub summary_of : PlanRecord → ℕ → Summary
summary_of plan cells = record {
  sats = length plan.satellites;
  refused = count_by (λ (satellite : SatelliteRecord). is_refused satellite.standing) plan.satellites;
  visible_spans = length (marked_spans is_visible plan);
  visible_ticks = ticks_of (marked_spans is_visible plan);
  hidden_spans = length (marked_spans is_hidden plan);
  hidden_ticks = ticks_of (marked_spans is_hidden plan);
  undecided_spans = length (marked_spans is_undecided plan);
  undecided_ticks = ticks_of (marked_spans is_undecided plan);
  unresolved = pairs_that is_unresolved plan;
  full = pairs_that is_full plan;
  decays = pairs_that is_decaying plan;
  cells = cells;
}
