-- What a certified answer of a track that sinks nowhere says.
use Rattle.std.proofs.Common.{◌≡◌, ◌≢◌, ℕ, ◌≤◌, List, subst}
use Rattle.exact.specs.Rational.{ℚ}
use Rattle.day_command.specs.Day.{DayRecord, GrazesNowhereLong, IsDayAt, IsResolved, slot_limit, track_of}
use Rattle.decimals.specs.Decimal.{DecimalRecord}
use Rattle.elements.specs.Window.{WindowRecord}
use Rattle.sgp4_model.specs.Certified.{IsCertified, TrackRecord}
use Rattle.sgp4_model.specs.Records.{AnswerRecord, spans, unresolved, full, decays}
use Rattle.sgp4_model.specs.Time.{Throughout}
use Rattle.sgp4_model.specs.declared.span.Span.{Span}

-- it is resolved where no long stretch grazes throughout
resolved : (track : TrackRecord) (resolution slots used : ℕ) (answer : AnswerRecord) (list : List Span) →
    ((place : ℚ) → ¬ (track.sinks place)) → IsCertified track resolution slots used answer list → GrazesNowhereLong track resolution → IsResolved answer
resolved track resolution slots used (spans count) list s h n = tt
resolved track resolution slots used (unresolved from to) list s h n =
    n from (subst (λ t. t ≤ track.ticks) h.0.longer h.0.inside) (subst (λ t. Throughout from t track.grazes) h.0.longer h.0.grazes)
resolved track resolution slots used (full at) list s h n = tt
resolved track resolution slots used (decays at) list s h n = s h.0.sinks.0 h.0.sinks.1.1

-- it never decays
steady : (track : TrackRecord) (resolution slots used : ℕ) (answer : AnswerRecord) (list : List Span) →
    ((place : ℚ) → ¬ (track.sinks place)) → IsCertified track resolution slots used answer list → (at : ℕ) → answer ≢ decays at
steady track resolution slots used (decays at) list s h tick e = s h.0.sinks.0 h.0.sinks.1.1
steady track resolution slots used (spans count) list s h tick e = absurd (cc)
steady track resolution slots used (unresolved from to) list s h tick e = absurd (cc)
steady track resolution slots used (full at) list s h tick e = absurd (cc)

-- so a certified day is the result for its place and window
pub day_at : (lat lon : DecimalRecord) (window : WindowRecord) (day : DayRecord) → day.window ≡ window →
    IsCertified (track_of lat lon window) window.resolution slot_limit 0 day.answer day.list → IsDayAt lat lon window day
day_at lat lon window day is h = record {
  window_is = is;
  certified = h;
  resolved = resolved _ _ _ _ _ _ (λ place s. s) h;
  never_decays = steady _ _ _ _ _ _ (λ place s. s) h;
}
