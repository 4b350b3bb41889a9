-- The result of the command `day`, and what it certifies.
use Rattle.std.specs.Prelude.{pos, ◌≡◌, ◌≢◌, ℕ, ◌+◌, ◌≤◌, List, All, ⊤}
use Rattle.decimals.specs.Decimal.{DecimalRecord, value}
use Rattle.elements.specs.Window.{WindowRecord}
use Rattle.pass_text.specs.DayLayout.{day_layout}
use Rattle.run_ends.specs.Files.{no_file}
use Rattle.run_ends.specs.Runs.{Command}
use Rattle.sgp4_model.specs.Certified.{IsCertified, TrackRecord}
use Rattle.sgp4_model.specs.DaySolution.{day_track}
use Rattle.sgp4_model.specs.Time.{Throughout}
use Rattle.sgp4_model.specs.Records.{AnswerRecord, spans, unresolved, full, decays}
use Rattle.sgp4_model.specs.declared.span.Span.{Span}
use Rattle.span_bisect.specs.Answer.{answer_record, answer_spans}
use Rattle.span_bisect.specs.declared.answer.TrackAnswer.{TrackAnswer}
use Rattle.span_pool.specs.Record.{PoolRecord}

-- the window, its one answer, and the answer's spans
pub record DayRecord : Type 0 where
  pub window : WindowRecord
  pub answer : AnswerRecord
  pub list : List Span

-- the result of an answer for a window, with the pool that holds its spans
abbrev pub day_record : WindowRecord → PoolRecord → TrackAnswer → DayRecord
day_record window pool answer = record { window = window; answer = answer_record answer; list = answer_spans pool answer }

-- a span lies in a window of so many ticks
pub record IsInside (ticks : ℕ) (span : Span) : Type 0 where
  pub from : span.from ≤ ticks
  pub to : span.to ≤ ticks

-- the ticks that an answer names lie in the window, and it does not decay
abbrev pub AnswerIsInside : ℕ → AnswerRecord → Type 0
AnswerIsInside ticks (spans count) = ⊤
AnswerIsInside ticks (unresolved from to) = (from ≤ ticks) × (to ≤ ticks)
AnswerIsInside ticks (full at) = at ≤ ticks
AnswerIsInside ticks (decays at) = ⊥

-- every tick of the result lies in its window, and it does not decay
pub record IsDayResult (day : DayRecord) : Type 0 where
  pub answer : AnswerIsInside day.window.ticks day.answer
  pub spans : All (IsInside day.window.ticks) day.list

-- what is printed of it
abbrev pub day_text : DayRecord → List ℕ
day_text day = day_layout day.window day.answer day.list

-- the spans of a plan, and of one result
abbrev pub slot_limit : ℕ
slot_limit = 1_048_576

-- the track of the daylight of a place at a latitude and a longitude over a window
abbrev pub track_of : DecimalRecord → DecimalRecord → WindowRecord → TrackRecord
track_of lat lon window = day_track (value lat) (value lon) window.start (pos 0) window.ticks

-- the track grazes throughout no stretch of one tick more than the resolution
abbrev pub GrazesNowhereLong : TrackRecord → ℕ → Type 0
GrazesNowhereLong track resolution =
    (from : ℕ) → from + resolution + 1 ≤ track.ticks → ¬ Throughout from (from + resolution + 1) track.grazes

-- the answer is spans, or full
abbrev pub IsResolved : AnswerRecord → Type 0
IsResolved (spans count) = ⊤
IsResolved (unresolved from to) = ⊥
IsResolved (full at) = ⊤
IsResolved (decays at) = ⊥

-- The result is of this window, and is certified for the place: at every instant of a span of light (night) every day
-- solution is light (night); undecided spans are no longer than the resolution and only graze; an unresolved stretch grazes
-- throughout. So where no long stretch grazes throughout, it is resolved. It never decays.
pub record IsDayAt (lat lon : DecimalRecord) (window : WindowRecord) (day : DayRecord) : Type 0 where
  pub window_is : day.window ≡ window
  pub certified : IsCertified (track_of lat lon window) window.resolution slot_limit 0 day.answer day.list
  pub resolved : GrazesNowhereLong (track_of lat lon window) window.resolution → IsResolved day.answer
  pub never_decays : (at : ℕ) → day.answer ≢ decays at

-- the command: it reads no file, gives the daylight of a place over a window, and prints that
abbrev pub day : DecimalRecord → DecimalRecord → WindowRecord → Command DayRecord
day lat lon window = record { files = no_file; is_product = λ held result. IsDayAt lat lon window result; layout = day_text }
