-- When a row of a plan is resolved.
use Rattle.std.specs.Prelude.{ℕ, ◌+◌, ◌≤◌, List, ⊤}
use Rattle.catalogue.specs.declared.entry.Entry.{Entry}
use Rattle.exact.specs.Rational.{ℚ}
use Rattle.plan_command.specs.Rows.{OfEachRow}
use Rattle.plan_core.specs.Certificate.{SettingRecord}
use Rattle.plan_text.specs.Plan.{PlanRecord}
use Rattle.sgp4_model.specs.Certified.{TrackRecord}
use Rattle.sgp4_model.specs.Records.{AnswerRecord, spans, unresolved, full, decays}
use Rattle.sgp4_model.specs.Time.{IsWithin, Throughout}

-- the track grazes throughout no stretch of one tick more than the resolution, and sinks nowhere
pub record IsClear (track : TrackRecord) (resolution : ℕ) : Type 0 where
  pub grazes_nowhere_long : (from : ℕ) → from + resolution + 1 ≤ track.ticks →
      ¬ Throughout from (from + resolution + 1) track.grazes
  pub sinks_nowhere : (place : ℚ) → IsWithin 0 track.ticks place → ¬ track.sinks place

-- the answer is spans
abbrev pub IsSpans : AnswerRecord → Type 0
IsSpans (spans count) = ⊤
IsSpans (unresolved from to) = ⊥
IsSpans (full at) = ⊥
IsSpans (decays at) = ⊥

-- the answer is full
abbrev pub IsFullAnswer : AnswerRecord → Type 0
IsFullAnswer (spans count) = ⊥
IsFullAnswer (unresolved from to) = ⊥
IsFullAnswer (full at) = ⊤
IsFullAnswer (decays at) = ⊥

-- the answer is spans, or full
abbrev pub IsSpansOrFull : AnswerRecord → Type 0
IsSpansOrFull (spans count) = ⊤
IsSpansOrFull (unresolved from to) = ⊥
IsSpansOrFull (full at) = ⊤
IsSpansOrFull (decays at) = ⊥

-- Each row whose track is clear is spans, or full; so it is spans where no row of the plan is full.
pub record IsResolved (entries : List Entry) (setting : SettingRecord) (plan : PlanRecord) : Type 0 where
  pub spans_or_full : OfEachRow entries setting plan
      (λ track row. IsClear track setting.window.resolution → IsSpansOrFull row.answer)
  pub spans_alone : OfEachRow entries setting plan (λ _ row. ¬ IsFullAnswer row.answer) →
      OfEachRow entries setting plan (λ track row. IsClear track setting.window.resolution → IsSpans row.answer)
