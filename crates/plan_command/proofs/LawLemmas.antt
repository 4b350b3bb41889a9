-- The laws of certified plans.
use Rattle.std.proofs.Common.{arith, ℕ, ◌+◌, ◌<◌, ◌≤◌, List, All, subst}
use Rattle.std.proofs.lemmas.List.Elements.{All-nil, All-weaker}
use Rattle.std.proofs.lemmas.Int.{ints}
use Rattle.station_file.specs.declared.row.StationRow.{StationRow}
use Rattle.catalogue.specs.declared.entry.Entry.{Entry}
use Rattle.exact.proofs.Integers.{of_int_le}
use Rattle.exact.proofs.Order.{le_trans}
use Rattle.exact.specs.Rational.{ℚ}
use Rattle.plan_command.specs.PlanLaws.{ClearRowsAreResolved, IsTrueOfLight, IsTrueOfSight, LightSpansAreTrue, PairSpansAreTrue, PlansListEachSatellite, RowsAreCertified}
use Rattle.plan_command.specs.Resolved.{IsClear, IsFullAnswer, IsSpans, IsSpansOrFull}
use Rattle.plan_command.specs.Rows.{IsLightRow, IsPairRow}
use Rattle.plan_command.proofs.RowLemmas.{light_is_certified, lists_each, pair_is_certified}
use Rattle.plan_core.specs.Certificate.{IsPlanOf, SettingRecord, light_of, sight_of}
use Rattle.plan_text.specs.Plan.{PlanRecord, RowRecord}
use Rattle.sgp4_model.specs.Certified.{IsCertified, IsTrueSpan, TrackRecord}
use Rattle.sgp4_model.specs.Records.{AnswerRecord, spans, unresolved, full, decays}
use Rattle.sgp4_model.specs.Time.{IsWithin, Throughout}
use Rattle.sgp4_model.specs.declared.span.Span.{Span}

pub plans_list_each_satellite : PlansListEachSatellite
plans_list_each_satellite = lists_each

pub rows_are_certified : RowsAreCertified
rows_are_certified slots entries setting plan h =
    record { light = light_is_certified slots entries setting plan h; pair = pair_is_certified slots entries setting plan h }

-- ---- spans
-- the spans of a certified row are true
spans_are_true : (track : TrackRecord) (resolution slots used : ℕ) (answer : AnswerRecord) (list : List Span) → IsCertified track resolution slots used answer list → All (IsTrueSpan track resolution) list
spans_are_true track resolution slots used (spans count) list h = h.0.each
spans_are_true track resolution slots used (unresolved from to) list h = rw h.1 (All-nil (IsTrueSpan track resolution))
spans_are_true track resolution slots used (full at) list h = rw h.1 (All-nil (IsTrueSpan track resolution))
spans_are_true track resolution slots used (decays at) list h = rw h.1 (All-nil (IsTrueSpan track resolution))

pub pair_spans_are_true : PairSpansAreTrue
pair_spans_are_true slots entries setting plan h entry station row is =
    let found = pair_is_certified slots entries setting plan h entry station row is in
    let track = sight_of setting entry.elements station in
    All-weaker (IsTrueSpan track setting.window.resolution) (IsTrueOfSight setting entry station)
    (λ span s. record { visible = s.yes; hidden = s.no; undecided = s.grazes; short = s.short }) row.list
    (spans_are_true track setting.window.resolution slots found.0 row.answer row.list found.1)

pub light_spans_are_true : LightSpansAreTrue
light_spans_are_true slots entries setting plan h entry row is =
    let found = light_is_certified slots entries setting plan h entry row is in
    let track = light_of setting.window entry.elements in
    All-weaker (IsTrueSpan track setting.window.resolution) (IsTrueOfLight setting entry)
    (λ span s. record { sunlit = s.yes; dark = s.no; undecided = s.grazes; short = s.short }) row.list
    (spans_are_true track setting.window.resolution slots found.0 row.answer row.list found.1)

-- ---- resolved rows
-- a place of a tick of the window lies in the window
within_all : (at ticks : ℕ) (place : ℚ) → at < ticks → IsWithin at (at + 1) place → IsWithin 0 ticks place
within_all at ticks place low here = record {
  low = le_trans (of_int_le (omega (arith, ints))) here.low;
  high = le_trans here.high (of_int_le (omega (arith, ints, low)));
}

-- a certified row whose track is clear is spans or full
spans_or_full : (track : TrackRecord) (resolution slots used : ℕ) (answer : AnswerRecord) (list : List Span) → IsCertified track resolution slots used answer list → IsClear track resolution → IsSpansOrFull answer
spans_or_full track resolution slots used (spans count) list h clear = tt
spans_or_full track resolution slots used (unresolved from to) list h clear =
    clear.grazes_nowhere_long from (subst (λ t. t ≤ track.ticks) h.0.longer h.0.inside) (subst (λ t. Throughout from t track.grazes) h.0.longer h.0.grazes)
spans_or_full track resolution slots used (full at) list h clear = tt
spans_or_full track resolution slots used (decays at) list h clear =
    clear.sinks_nowhere h.0.sinks.0 (within_all at track.ticks h.0.sinks.0 h.0.before_the_end h.0.sinks.1.0) h.0.sinks.1.1

-- and spans where it is not full
spans_alone : (answer : AnswerRecord) → IsSpansOrFull answer → ¬ IsFullAnswer answer → IsSpans answer
spans_alone (spans count) h none = tt
spans_alone (unresolved from to) h none = h
spans_alone (full at) h none = none tt
spans_alone (decays at) h none = h

-- the row of a light
light_resolved : (slots : ℕ) (entries : List Entry) (setting : SettingRecord) (plan : PlanRecord) → IsPlanOf slots entries setting plan →
    (entry : Entry) (row : RowRecord) → IsLightRow entries plan entry row → IsClear (light_of setting.window entry.elements) setting.window.resolution → IsSpansOrFull row.answer
light_resolved slots entries setting plan h entry row is clear =
    let found = light_is_certified slots entries setting plan h entry row is in
    spans_or_full (light_of setting.window entry.elements) setting.window.resolution slots found.0 row.answer row.list found.1 clear

-- the row of a station
pair_resolved : (slots : ℕ) (entries : List Entry) (setting : SettingRecord) (plan : PlanRecord) → IsPlanOf slots entries setting plan →
    (entry : Entry) (station : StationRow) (row : RowRecord) → IsPairRow entries setting.stations.rows plan entry station row →
    IsClear (sight_of setting entry.elements station) setting.window.resolution → IsSpansOrFull row.answer
pair_resolved slots entries setting plan h entry station row is clear =
    let found = pair_is_certified slots entries setting plan h entry station row is in
    spans_or_full (sight_of setting entry.elements station) setting.window.resolution slots found.0 row.answer row.list found.1 clear

pub clear_rows_are_resolved : ClearRowsAreResolved
clear_rows_are_resolved slots entries setting plan h = record {
  spans_or_full = record { light = light_resolved slots entries setting plan h; pair = pair_resolved slots entries setting plan h };
  spans_alone = λ none. record {
    light = λ entry row is clear. spans_alone row.answer (light_resolved slots entries setting plan h entry row is clear) (none.light entry row is);
    pair = λ entry station row is clear. spans_alone row.answer (pair_resolved slots entries setting plan h entry station row is clear) (none.pair entry station row is);
  };
}
