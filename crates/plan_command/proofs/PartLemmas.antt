-- The parts of a plan's text are lines of what the readers of the plan give.
use Rattle.std.proofs.Common.{◌≡◌, refl, arith, ℕ, ◌≤◌, List, [], ◌++◌, length, map, All, Option, None, Some, sym, subst, ap, ◌∙◌, append_assoc}
use Rattle.std.proofs.lemmas.Option.{get_or_from_slice_get, none-some, same_Some, slice_get-map, slice_get_past, slice_get_within}
use Rattle.std.specs.Option.{option_map}
use Rattle.std.specs.Prelude.{ℤ, codes, slice_get}
use Rattle.pass_text.specs.SatLine.{sat_line}
use Rattle.plan_command.specs.Head.{head_lines}
use Rattle.plan_command.specs.Parts.{light_text, pair_rows, pairs_text, satellite_text}
use Rattle.plan_core.specs.Readers.{listed, lit_of, pair_of, where_accepted}
use Rattle.plan_core.specs.State.{PlanState, SatState, plan_record, row_of, satellite_of, standing_by}
use Rattle.plan_core.specs.declared.sat_row.SatRow.{SatRow}
use Rattle.plan_text.specs.HeadLines.{offset_lines, station_line, station_lines}
use Rattle.plan_text.specs.Plan.{HasRows, IsPlan, IsSatellite, PlanRecord, RowRecord, SatelliteRecord, StandingRecord, fate_of, pairs_of, planned, refused}
use Rattle.plan_text.specs.PlanLayout.{plan_layout, plan_tail}
use Rattle.plan_text.specs.RowLines.{pair_block, pair_blocks, row_blocks, span_lines, standing_blocks}
use Rattle.plan_text.specs.SatLine.{sat_lines}
use Rattle.pass_text.specs.DayLayout.{span_line, window_line}
use Rattle.run_ends.proofs.PrintedLemmas.{AreLines}
use Rattle.plan_command.proofs.NumberedLemmas.{AreNumbered}
use Rattle.sgp4_model.specs.declared.span.Mark.{Mark}
use Rattle.sgp4_shape.specs.declared.fault.SatFault.{SatFault}
use Rattle.span_bisect.specs.declared.answer.TrackAnswer.{TrackAnswer}
use Rattle.span_pool.specs.Record.{PoolRecord}

-- what holds of all elements holds of the one at a place
pub all_at : {A : Type 0} (P : A → Type 0) (xs : List A) (k : ℕ) (x : A) → slice_get xs k ≡ Some x → All P xs → P x
all_at P xs k x e h = subst P (get_or_from_slice_get xs k x x e) (h k x (slice_get_within xs k x e))

-- ---- lines
pub station_lines_are : AreNumbered station_line station_lines
station_lines_are = record { none = λ n. refl; more = λ n name rest. refl }

-- the line of a satellite
abbrev pub line_of : SatelliteRecord → List ℕ
line_of satellite = sat_line satellite.number (fate_of satellite.standing) satellite.name

pub sat_lines_are : AreLines line_of sat_lines
sat_lines_are = record { none = refl; more = λ satellite rest. refl }

pub span_lines_are : (letter : Mark → List ℕ) (start : ℤ) → AreLines (λ span. span_line (letter span.mark) start span) (span_lines letter start)
span_lines_are letter start = record { none = refl; more = λ span rest. refl }

pub pair_blocks_are : (start : ℤ) (number : ℕ) → AreNumbered (pair_block start number) (pair_blocks start number)
pair_blocks_are start number = record { none = λ n. refl; more = λ n row rest. refl }

-- the rows of a satellite
abbrev pub blocks_of : ℤ → SatelliteRecord → List ℕ
blocks_of start satellite = standing_blocks start satellite.number satellite.standing

pub row_blocks_are : (start : ℤ) → AreLines (blocks_of start) (row_blocks start)
row_blocks_are start = record { none = refl; more = λ satellite rest. refl }

-- ---- satellites
-- the satellite that is listed so
pub listed_at : (o : Option SatState) (row : SatRow) → Some row ≡ option_map listed o → (s : SatState) × (o ≡ Some s) × (row ≡ listed s)
listed_at None row e = absurd (none-some row (sym e))
listed_at (Some s) row e = (s, refl, same_Some row (listed s) e)

-- why it is refused, if it is
fate_is : (pool : PoolRecord) (lit : TrackAnswer) (pairs : List TrackAnswer) (fate : Option SatFault) → fate_of (standing_by pool lit pairs fate) ≡ fate
fate_is pool lit pairs None = refl
fate_is pool lit pairs (Some fault) = refl

-- the satellite in plain words is there
pub satellite_at : (plan : PlanState) (k : ℕ) (s : SatState) → slice_get plan.satellites k ≡ Some s → slice_get (plan_record plan).satellites k ≡ Some (satellite_of plan.pool s)
satellite_at plan k s e = slice_get-map (satellite_of plan.pool) plan.satellites k ∙ ap (option_map (satellite_of plan.pool)) e

-- its line is that of how it is listed
pub line_is : (pool : PoolRecord) (s : SatState) (row : SatRow) → row ≡ listed s → sat_line row.number row.fate row.name ≡ line_of (satellite_of pool s)
line_is pool s row e =
    ap (λ (r : SatRow). sat_line r.number r.fate r.name) e
    ∙ ap (λ f. sat_line s.set.number f s.name) (sym (fate_is pool s.lit s.pairs s.fate))

-- its name fits a line
pub name_fits : (plan : PlanState) (k : ℕ) (row : SatRow) → IsPlan (plan_record plan) → Some row ≡ option_map listed (slice_get plan.satellites k) → length row.name ≤ 64
name_fits plan k row is e =
    let found = listed_at (slice_get plan.satellites k) row e in
    let one = all_at (IsSatellite _ _) (plan_record plan).satellites k (satellite_of plan.pool found.0) (satellite_at plan k found.0 found.1) is.satellites in
    subst (λ (r : SatRow). length r.name ≤ 64) (sym found.2) one.name.most

-- ---- rows
-- the text of a satellite that is accepted, by its fate
text_by : (plan : PlanState) (number : ℕ) (lit light : TrackAnswer) (pairs : List TrackAnswer) (fate : Option SatFault) → Some light ≡ where_accepted fate lit →
    standing_blocks plan.setting.window.start number (standing_by plan.pool lit pairs fate)
    ≡ light_text plan number light ++ pair_blocks plan.setting.window.start number 1 (pairs_of (standing_by plan.pool lit pairs fate))
text_by plan number lit light pairs None e =
    ap (λ answer. light_text plan number answer ++ pair_blocks plan.setting.window.start number 1 (map (row_of plan.pool) pairs)) (sym (same_Some light lit e))
text_by plan number lit light pairs (Some fault) e = absurd (none-some light (sym e))

pub accepted_text : (plan : PlanState) (o : Option SatState) (row : SatRow) (light : TrackAnswer) → Some row ≡ option_map listed o → Some light ≡ lit_of o →
    light_text plan row.number light ++ pairs_text plan row.number o ≡ satellite_text plan o
accepted_text plan None row light e h = absurd (none-some row (sym e))
accepted_text plan (Some s) row light e h =
    let number = ap (λ (r : SatRow). r.number) (same_Some row (listed s) e) in
    ap (λ n. light_text plan n light ++ pairs_text plan n (Some s)) number ∙ sym (text_by plan s.set.number s.lit light s.pairs s.fate h)

-- that of one that is refused
no_text_by : (plan : PlanState) (number : ℕ) (lit : TrackAnswer) (pairs : List TrackAnswer) (fate : Option SatFault) → None ≡ where_accepted fate lit →
    standing_blocks plan.setting.window.start number (standing_by plan.pool lit pairs fate) ≡ []
no_text_by plan number lit pairs None e = absurd (none-some lit e)
no_text_by plan number lit pairs (Some fault) e = refl

pub refused_text : (plan : PlanState) (o : Option SatState) → None ≡ lit_of o → satellite_text plan o ≡ []
refused_text plan None h = refl
refused_text plan (Some s) h = no_text_by plan s.set.number s.lit s.pairs s.fate h

-- the row at a station is that of the answer that is given, if one is
row_by : (plan : PlanState) (s : SatState) (fate : Option SatFault) (k : ℕ) (given : Option TrackAnswer) → given ≡ pair_of (Some (record s { fate = fate })) k →
    slice_get (pairs_of (standing_by plan.pool s.lit s.pairs fate)) k ≡ option_map (row_of plan.pool) given
row_by plan s None k given e = slice_get-map (row_of plan.pool) s.pairs k ∙ ap (option_map (row_of plan.pool)) (sym e)
row_by plan s (Some fault) k given e = slice_get_past {X = RowRecord} [] k (omega arith) ∙ ap (option_map (row_of plan.pool)) (sym e)

pub row_at : (plan : PlanState) (o : Option SatState) (k : ℕ) (given : Option TrackAnswer) → given ≡ pair_of o k → slice_get (pair_rows plan o) k ≡ option_map (row_of plan.pool) given
row_at plan None k given e = slice_get_past {X = RowRecord} [] k (omega arith) ∙ ap (option_map (row_of plan.pool)) (sym e)
row_at plan (Some s) k given e = row_by plan s s.fate k given e

-- there are no more of them than stations
pairs_few : (ticks stations : ℕ) (standing : StandingRecord) → HasRows ticks stations standing → length (pairs_of standing) ≤ stations
pairs_few ticks stations (refused fault) h = omega arith
pairs_few ticks stations (planned lit pairs) h = omega (arith, h.2)

rows_by : (plan : PlanState) (k : ℕ) (o : Option SatState) → IsPlan (plan_record plan) → slice_get plan.satellites k ≡ o → length (pair_rows plan o) ≤ length (plan_record plan).stations
rows_by plan k None is e = omega arith
rows_by plan k (Some s) is e =
    let one = all_at (IsSatellite _ _) (plan_record plan).satellites k (satellite_of plan.pool s) (satellite_at plan k s e) is.satellites in
    pairs_few _ _ (standing_by plan.pool s.lit s.pairs s.fate) one.rows

pub rows_few : (plan : PlanState) (k : ℕ) → IsPlan (plan_record plan) → length (pair_rows plan (slice_get plan.satellites k)) ≤ length (plan_record plan).stations
rows_few plan k is = rows_by plan k (slice_get plan.satellites k) is refl

-- ---- the whole
-- the layout is the heading, the head, the rows and the tail
pub layout_is : (plan : PlanRecord) → codes "PASSPLAN 1\n" ++ (head_lines plan ++ (row_blocks plan.window.start plan.satellites ++ plan_tail plan)) ≡ plan_layout plan
layout_is plan =
    let rest = row_blocks plan.window.start plan.satellites ++ plan_tail plan in
    ap (λ t. codes "PASSPLAN 1\n" ++ t)
    (append_assoc (window_line plan.window) (offset_lines plan.offset ++ (station_lines 1 plan.stations ++ sat_lines plan.satellites)) rest
    ∙ ap (λ t. window_line plan.window ++ t)
    (append_assoc (offset_lines plan.offset) (station_lines 1 plan.stations ++ sat_lines plan.satellites) rest
    ∙ ap (λ t. offset_lines plan.offset ++ t) (append_assoc (station_lines 1 plan.stations) (sat_lines plan.satellites) rest)))
