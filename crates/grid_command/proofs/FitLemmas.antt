-- How much the rows of a plan can have: each count is far below what a `u64` holds.
use Rattle.std.proofs.Common.{◌≡◌, arith, ℕ, ◌+◌, ◌-◌, ◌*◌, ◌≤◌, List, [], ◌∷◌, ◌++◌, length, All, ap, ◌∙◌}
use Rattle.std.proofs.lemmas.List.{append-nil}
use Rattle.std.proofs.lemmas.List.Concat.{flat_map-append}
use Rattle.std.proofs.lemmas.List.Elements.{All-head, All-tail}
use Rattle.std.proofs.lemmas.List.Sums.{sum_by-cons}
use Rattle.std.specs.List.{flat_map}
use Rattle.elements.specs.Window.{most_ticks}
use Rattle.grid_command.specs.Tally.{Fits, both, tally_of, tally_of_spans, weight}
use Rattle.grid_command.specs.declared.tally.Tally.{Tally}
use Rattle.grid_command.proofs.TallyLemmas.{IsAdditive, rows-append, spans-append, weight-both}
use Rattle.plan_core.specs.Certificate.{spans_in, spans_of}
use Rattle.plan_core.specs.Filled.{spans_in_all}
use Rattle.plan_text.specs.Plan.{HasRows, IsPlan, IsRow, IsSatellite, IsWithin, PlanRecord, RowRecord, SatelliteRecord, StandingRecord, most_spans, pairs_of, planned, refused}
use Rattle.plan_text.specs.Summary.{pair_rows}
use Rattle.sgp4_model.specs.Records.{AnswerRecord, spans, unresolved, full, decays}
use Rattle.sgp4_model.specs.declared.span.Mark.{Mark}
use Rattle.sgp4_model.specs.declared.span.Mark.TheVariants.{Yes, No, Undecided}
use Rattle.sgp4_model.specs.declared.span.Span.{Span}

-- one more than the most ticks of a window: a span and its ticks
abbrev unit : ℕ
unit = 8_640_000_001

-- ---- spans
-- a span counts as one, and has its ticks
pub span_weight : (mark : Mark) (from to : ℕ) → weight (tally_of_spans (record { mark = mark; from = from; to = to } ∷ [])) ≡ 1 + (to - from)
span_weight Yes from to = omega arith
span_weight No from to = omega arith
span_weight Undecided from to = omega arith

spans_weight : (ticks : ℕ) (list : List Span) → ticks ≤ most_ticks → All (IsWithin ticks) list → weight (tally_of_spans list) ≤ length list * unit
spans_weight ticks [] most h = omega arith
spans_weight ticks (s ∷ rest) most h =
    let one = All-head (IsWithin ticks) s rest h in
    let others = spans_weight ticks rest most (All-tail (IsWithin ticks) s rest h) in
    omega (arith, most, one.to, others, span_weight s.mark s.from s.to, ap weight (spans-append (s ∷ []) rest), weight-both (tally_of_spans (s ∷ [])) (tally_of_spans rest))

-- ---- rows
-- a row counts as one at most besides its spans
row_by : (ticks : ℕ) (answer : AnswerRecord) (list : List Span) → ticks ≤ most_ticks → All (IsWithin ticks) list →
    weight (tally_of (record { answer = answer; list = list } ∷ [])) ≤ 1 + length list * unit
row_by ticks (spans count) list most h = omega (arith, spans_weight ticks list most h, ap (λ l. weight (tally_of_spans l)) (append-nil list))
row_by ticks (unresolved from to) list most h = omega (arith, spans_weight ticks list most h, ap (λ l. weight (tally_of_spans l)) (append-nil list))
row_by ticks (full at) list most h = omega (arith, spans_weight ticks list most h, ap (λ l. weight (tally_of_spans l)) (append-nil list))
row_by ticks (decays at) list most h = omega (arith, spans_weight ticks list most h, ap (λ l. weight (tally_of_spans l)) (append-nil list))

rows_weight : (ticks : ℕ) (rows : List RowRecord) → ticks ≤ most_ticks → All (IsRow ticks) rows → weight (tally_of rows) ≤ length rows + spans_in rows * unit
rows_weight ticks [] most h = omega arith
rows_weight ticks (r ∷ rest) most h =
    let one = All-head (IsRow ticks) r rest h in
    let others = rows_weight ticks rest most (All-tail (IsRow ticks) r rest h) in
    omega (arith, row_by ticks r.answer r.list most one.spans, others, sum_by-cons (λ (row : RowRecord). length row.list) r rest, ap weight (rows-append (r ∷ []) rest), weight-both (tally_of (r ∷ [])) (tally_of rest))

-- ---- satellites
-- the counts of the rows of satellites at the stations
abbrev pub tally_of_satellites : List SatelliteRecord → Tally
tally_of_satellites satellites = tally_of (flat_map (λ (satellite : SatelliteRecord). pairs_of satellite.standing) satellites)

pub satellites-append : (xs ys : List SatelliteRecord) → tally_of_satellites (xs ++ ys) ≡ both (tally_of_satellites xs) (tally_of_satellites ys)
satellites-append xs ys =
    let pairs = λ (satellite : SatelliteRecord). pairs_of satellite.standing in
    ap tally_of (flat_map-append pairs xs ys) ∙ rows-append (flat_map pairs xs) (flat_map pairs ys)

pub satellites_are : IsAdditive tally_of_satellites
satellites_are = record { more = satellites-append }

pub one_satellite : (s : SatelliteRecord) → tally_of_satellites (s ∷ []) ≡ tally_of (pairs_of s.standing)
one_satellite s = ap tally_of (append-nil (pairs_of s.standing))

standing_weight : (ticks stations : ℕ) (standing : StandingRecord) → ticks ≤ most_ticks → stations ≤ 64 → HasRows ticks stations standing → weight (tally_of (pairs_of standing)) ≤ 64 + spans_of standing * unit
standing_weight ticks stations (refused fault) most few h = omega arith
standing_weight ticks stations (planned lit pairs) most few h = omega (arith, few, h.2, rows_weight ticks pairs most h.1)

satellites_weight : (ticks stations : ℕ) (satellites : List SatelliteRecord) → ticks ≤ most_ticks → stations ≤ 64 → All (IsSatellite ticks stations) satellites →
    weight (tally_of_satellites satellites) ≤ length satellites * 64 + spans_in_all satellites * unit
satellites_weight ticks stations [] most few h = omega arith
satellites_weight ticks stations (s ∷ rest) most few h =
    let one = standing_weight ticks stations s.standing most few (All-head (IsSatellite ticks stations) s rest h).rows in
    let others = satellites_weight ticks stations rest most few (All-tail (IsSatellite ticks stations) s rest h) in
    omega (arith, one, others, ap weight (one_satellite s), sum_by-cons (λ (x : SatelliteRecord). spans_of x.standing) s rest, ap weight (satellites-append (s ∷ []) rest), weight-both (tally_of_satellites (s ∷ [])) (tally_of_satellites rest))

-- the counts of a plan fit
pub plan_fits : (plan : PlanRecord) → IsPlan plan → spans_in_all plan.satellites ≤ most_spans → Fits (tally_of (pair_rows plan))
plan_fits plan is few =
    omega (arith, is.few, few, satellites_weight plan.window.ticks (length plan.stations) plan.satellites is.window.most is.most is.satellites)
