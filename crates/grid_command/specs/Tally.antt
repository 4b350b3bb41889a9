-- What is counted of rows of satellites at stations.
use Rattle.std.specs.Prelude.{ℕ, ◌+◌, ◌<◌, ◌^◌, Bool, List, length}
use Rattle.std.specs.List.{count_by, filter, flat_map}
use Rattle.grid_command.specs.declared.tally.Tally.{Tally}
use Rattle.plan_text.specs.Plan.{RowRecord}
use Rattle.plan_text.specs.Summary.{is_decaying, is_full, is_hidden, is_undecided, is_unresolved, ticks_of}
use Rattle.plan_text.specs.Timetable.{is_visible}
use Rattle.sgp4_model.specs.Records.{AnswerRecord}
use Rattle.sgp4_model.specs.declared.span.Mark.{Mark}
use Rattle.sgp4_model.specs.declared.span.Span.{Span}

-- the spans of which the mark is as asked for
abbrev pub marked : (Mark → Bool) → List Span → List Span
marked test list = filter (λ (span : Span). test span.mark) list

-- the rows of which the answer is as asked for
abbrev pub answering : (AnswerRecord → Bool) → List RowRecord → ℕ
answering test rows = count_by (λ (row : RowRecord). test row.answer) rows

-- the counts of spans alone
abbrev pub tally_of_spans : List Span → Tally
tally_of_spans list = record {
  visible_spans = length (marked is_visible list);
  visible_ticks = ticks_of (marked is_visible list);
  hidden_spans = length (marked is_hidden list);
  hidden_ticks = ticks_of (marked is_hidden list);
  undecided_spans = length (marked is_undecided list);
  undecided_ticks = ticks_of (marked is_undecided list);
  unresolved = 0;
  full = 0;
  decays = 0;
}

-- the counts of rows: of all their spans, and of the answers that are not spans
abbrev pub tally_of : List RowRecord → Tally
tally_of rows = record (tally_of_spans (flat_map (λ (row : RowRecord). row.list) rows)) {
  unresolved = answering is_unresolved rows;
  full = answering is_full rows;
  decays = answering is_decaying rows;
}

-- count by count, the sum of two
abbrev pub both : Tally → Tally → Tally
both a b = record {
  visible_spans = a.visible_spans + b.visible_spans;
  visible_ticks = a.visible_ticks + b.visible_ticks;
  hidden_spans = a.hidden_spans + b.hidden_spans;
  hidden_ticks = a.hidden_ticks + b.hidden_ticks;
  undecided_spans = a.undecided_spans + b.undecided_spans;
  undecided_ticks = a.undecided_ticks + b.undecided_ticks;
  unresolved = a.unresolved + b.unresolved;
  full = a.full + b.full;
  decays = a.decays + b.decays;
}

-- the spans, the ticks and the other answers together
abbrev pub weight : Tally → ℕ
weight t =
    t.visible_spans + t.visible_ticks + t.hidden_spans + t.hidden_ticks + t.undecided_spans + t.undecided_ticks
    + t.unresolved + t.full + t.decays

-- so each count is one that a `u64` holds
abbrev pub Fits : Tally → Type 0
Fits t = weight t < 2 ^ 64
