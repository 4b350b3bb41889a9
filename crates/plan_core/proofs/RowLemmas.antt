-- Certified rows lie in their window.
use Rattle.std.proofs.Common.{◌≡◌, ℕ, ◌+◌, ◌≤◌, sym, ap, subst, arith, List, [], ◌∷◌, length, All}
use Rattle.std.proofs.lemmas.List.Elements.{All-cons, All-nil}
use Rattle.std.proofs.lemmas.List.Sums.{sum_by-cons}
use Rattle.elements.specs.Elements.{ElementsRecord}
use Rattle.plan_core.specs.Certificate.{SettingRecord, ArePairRows, IsStanding, light_of, sight_of, spans_in, spans_of}
use Rattle.plan_text.specs.Plan.{HasRows, IsRow, IsWithin, RowRecord, StandingRecord, most_spans, planned, refused}
use Rattle.sgp4_model.specs.Certified.{IsCertified, Leads, TrackRecord}
use Rattle.sgp4_model.specs.Records.{AnswerRecord, spans, unresolved, full, decays}
use Rattle.sgp4_model.specs.declared.span.Span.{Span}
use Rattle.station_file.specs.declared.row.StationRow.{StationRow}

-- spans that lead from one tick to another lie between them
leads_within : (ticks from to : ℕ) (list : List Span) → Leads from list to → to ≤ ticks → (from ≤ to) × All (IsWithin ticks) list
leads_within ticks from to [] h k = (omega (arith, h), All-nil (IsWithin ticks))
leads_within ticks from to (first ∷ rest) h k =
    let after = leads_within ticks first.to to rest h.2 k in
    let low : from ≤ to = omega (arith, h.0, h.1, after.0) in
    let one : IsWithin ticks first = record { from = omega (arith, h.1, after.0); to = omega (arith, after.0) } in
    (low, All-cons (IsWithin ticks) first rest one after.1)

-- no spans
none : (ticks : ℕ) (list : List Span) → list ≡ [] → All (IsWithin ticks) list
none ticks list e = subst (λ l. All (IsWithin ticks) l) (sym e) (All-nil (IsWithin ticks))

-- a certified row of few spans
pub certified_row : (track : TrackRecord) (resolution slots used : ℕ) (answer : AnswerRecord) (list : List Span) → IsCertified track resolution slots used answer list → length list ≤ most_spans → IsRow track.ticks (record { answer = answer; list = list })
certified_row track resolution slots used (spans count) list h few = record {
  answer = tt;
  counted = h.1;
  most = few;
  spans = (leads_within track.ticks 0 track.ticks list h.0.tiles (omega arith)).1;
}
certified_row track resolution slots used (unresolved from to) list h few = record {
  answer = (omega (arith, h.0.longer, h.0.inside), h.0.inside);
  counted = h.1;
  most = few;
  spans = none track.ticks list h.1;
}
certified_row track resolution slots used (full at) list h few = record {
  answer = omega (arith, h.0.before_the_end);
  counted = h.1;
  most = few;
  spans = none track.ticks list h.1;
}
certified_row track resolution slots used (decays at) list h few = record {
  answer = omega (arith, h.0.before_the_end);
  counted = h.1;
  most = few;
  spans = none track.ticks list h.1;
}

-- certified rows of few spans, one for each station
pair_rows_are : (setting : SettingRecord) (slots : ℕ) (set : ElementsRecord) (used : ℕ) (stations : List StationRow) (rows : List RowRecord) → ArePairRows setting slots set used stations rows → spans_in rows ≤ most_spans → All (IsRow setting.window.ticks) rows × (length rows ≡ length stations)
pair_rows_are setting slots set used [] [] h few = (All-nil (IsRow setting.window.ticks), omega arith)
pair_rows_are setting slots set used [] (row ∷ rows) h few = absurd h
pair_rows_are setting slots set used (s ∷ ss) [] h few = absurd h
pair_rows_are setting slots set used (s ∷ ss) (row ∷ rows) h few =
    let count = sum_by-cons (λ (r : RowRecord). length r.list) row rows in
    let one = certified_row (sight_of setting set s) setting.window.resolution slots used row.answer row.list h.0 (omega (arith, count)) in
    let more = pair_rows_are setting slots set (used + length row.list) ss rows h.1 (omega (arith, count)) in
    (All-cons (IsRow setting.window.ticks) row rows one more.0, omega (arith, more.1))

-- what is made of a satellite
pub standing_has_rows : (setting : SettingRecord) (slots : ℕ) (set : ElementsRecord) (used : ℕ) (standing : StandingRecord) → IsStanding setting slots set used standing → spans_of standing ≤ most_spans → HasRows setting.window.ticks (length setting.stations.rows) standing
standing_has_rows setting slots set used (refused fault) h few = tt
standing_has_rows setting slots set used (planned lit pairs) h few =
    let pair_rows = pair_rows_are setting slots set (used + length lit.list) setting.stations.rows pairs h.2 (omega arith) in
    (certified_row (light_of setting.window set) setting.window.resolution slots used lit.answer lit.list h.1 (omega arith), pair_rows.0, pair_rows.1)
