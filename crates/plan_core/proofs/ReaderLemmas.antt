-- What the readers of a plan give is what the plan keeps.
use Rattle.std.proofs.Common.{◌≡◌, ℕ, ◌<◌, refl, sym, ap, subst, ◌∙◌, arith, Bool, List, [], ◌∷◌, length, get_or, map, All, Option, None, Some, IfSome, slice_get}
use Rattle.std.specs.Prelude.{◌&&◌, option_copied}
use Rattle.std.specs.Borrow.{Bor}
use Rattle.std.specs.List.{list_all}
use Rattle.std.proofs.lemmas.List.{get_or-map, length-map}
use Rattle.std.proofs.lemmas.List.Elements.{All-get_or}
use Rattle.std.proofs.lemmas.List.Folds.{list_all-map}
use Rattle.std.proofs.lemmas.Option.{get_or_from_slice_get, same_Some, slice_get-map, slice_get_read, slice_get_within}
use Rattle.std.specs.Option.{option_map}
use Rattle.catalogue.specs.declared.entry.Entry.{Entry}
use Rattle.plan_core.specs.Certificate.{SettingRecord}
use Rattle.plan_core.specs.Filled.{IsPlanState}
use Rattle.plan_core.specs.Readers.{pair_by, where_accepted}
use Rattle.plan_core.specs.State.{PlanState, SatState, entry_of, row_of, satellite_of, standing_by}
use Rattle.plan_core.specs.Whole.{are_spans, has_spans_alone, is_resolved, is_spans}
use Rattle.plan_text.specs.Plan.{HasRows, IsRow, IsSatellite, RowRecord, SatelliteRecord}
use Rattle.sgp4_shape.specs.declared.fault.SatFault.{SatFault}
use Rattle.span_bisect.specs.Answer.{answer_record}
use Rattle.span_bisect.specs.declared.answer.TrackAnswer.{TrackAnswer}
use Rattle.span_pool.specs.Record.{PoolRecord}

-- what holds of the answer that a reader gives, if it gives one
pub of_given : (P : TrackAnswer → Type 0) (given : Option (Bor TrackAnswer)) → ((answer : TrackAnswer) → option_copied given ≡ Some answer → P answer) → IfSome given (λ answer. P answer.now)
of_given P None h = tt
of_given P (Some answer) h = h answer.now refl

-- a satellite of the plan has rows
has_rows : (plan : PlanState) → IsPlanState plan → (k : ℕ) (s : SatState) → k < length plan.satellites → s ≡ get_or plan.satellites k s → HasRows plan.setting.window.ticks (length (map (λ row. row.name) plan.setting.stations.rows)) (standing_by plan.pool s.lit s.pairs s.fate)
has_rows plan h k s low read =
    let states = plan.satellites in
    let one = satellite_of plan.pool in
    let is = All-get_or (IsSatellite plan.setting.window.ticks (length (map (λ row. row.name) plan.setting.stations.rows))) (map one states) k (one s) (omega (arith, length-map states one)) h.is_plan.satellites in
    let same : get_or (map one states) k (one s) ≡ one s = get_or-map one states k s (one s) low ∙ ap one (sym read) in
    let found = subst (λ x. IsSatellite plan.setting.window.ticks (length (map (λ row. row.name) plan.setting.stations.rows)) x) same is in
    found.rows

-- the row of a light
lit_by : (ticks stations : ℕ) (pool : PoolRecord) (lit : TrackAnswer) (pairs : List TrackAnswer) (fate : Option SatFault) (answer : TrackAnswer) → HasRows ticks stations (standing_by pool lit pairs fate) → where_accepted fate lit ≡ Some answer → IsRow ticks (row_of pool answer)
lit_by ticks stations pool lit pairs None answer h e = subst (λ a. IsRow ticks (row_of pool a)) (same_Some lit answer e) h.0
lit_by ticks stations pool lit pairs (Some fault) answer h e = absurd (cc)

-- the row at a station
pair_row_by : (ticks stations : ℕ) (pool : PoolRecord) (lit : TrackAnswer) (pairs : List TrackAnswer) (fate : Option SatFault) (station : ℕ) (answer : TrackAnswer) → HasRows ticks stations (standing_by pool lit pairs fate) → pair_by fate pairs station ≡ Some answer → IsRow ticks (row_of pool answer)
pair_row_by ticks stations pool lit pairs (Some fault) station answer h e = absurd (cc)
pair_row_by ticks stations pool lit pairs None station answer h e =
    let low = slice_get_within pairs station answer e in
    let at = All-get_or (IsRow ticks) (map (row_of pool) pairs) station (row_of pool answer) (omega (arith, low, length-map pairs (row_of pool))) h.1 in
    subst (λ r. IsRow ticks r) (get_or-map (row_of pool) pairs station answer (row_of pool answer) low ∙ ap (row_of pool) (get_or_from_slice_get pairs station answer answer e)) at

-- the row that the reader of light gives
pub lit_is_row : (plan : PlanState) → IsPlanState plan → (k : ℕ) (s : SatState) → k < length plan.satellites → s ≡ get_or plan.satellites k s → (answer : TrackAnswer) → where_accepted s.fate s.lit ≡ Some answer → IsRow plan.setting.window.ticks (row_of plan.pool answer)
lit_is_row plan h k s low read answer e = lit_by _ _ plan.pool s.lit s.pairs s.fate answer (has_rows plan h k s low read) e

-- the row that the reader of pairs gives
pub pair_is_row : (plan : PlanState) → IsPlanState plan → (k : ℕ) (s : SatState) → k < length plan.satellites → s ≡ get_or plan.satellites k s → (station : ℕ) (answer : TrackAnswer) → pair_by s.fate s.pairs station ≡ Some answer → IsRow plan.setting.window.ticks (row_of plan.pool answer)
pair_is_row plan h k s low read station answer e = pair_row_by _ _ plan.pool s.lit s.pairs s.fate station answer (has_rows plan h k s low read) e

-- a satellite is resolved where its answers are spans
resolved_by : (pool : PoolRecord) (lit : TrackAnswer) (pairs : List TrackAnswer) (fate : Option SatFault) → is_resolved (standing_by pool lit pairs fate) ≡ are_spans fate lit pairs
resolved_by pool lit pairs None = ap (λ b. is_spans (answer_record lit) && b) (list_all-map (λ (row : RowRecord). is_spans row.answer) (row_of pool) pairs)
resolved_by pool lit pairs (Some fault) = refl

-- a plan is whole where those of each satellite are
pub whole_is : (pool : PoolRecord) (satellites : List SatState) → list_all (λ (satellite : SatelliteRecord). is_resolved satellite.standing) (map (satellite_of pool) satellites) ≡ list_all has_spans_alone satellites
whole_is pool satellites =
    list_all-map (λ (satellite : SatelliteRecord). is_resolved satellite.standing) (satellite_of pool) satellites
    ∙ (λ i. list_all (λ (s : SatState). resolved_by pool s.lit s.pairs s.fate i) satellites)

-- the set of a satellite is that of its entry
pub entry_set : (satellites : List SatState) (k : ℕ) (s : SatState) (entry : Entry) → s ≡ get_or satellites k s → slice_get (map entry_of satellites) k ≡ Some entry → s.set ≡ entry.elements
entry_set satellites k s entry read e =
    let low : k < length satellites = omega (arith, slice_get_within (map entry_of satellites) k entry e, length-map satellites entry_of) in
    let found = slice_get_read satellites (length satellites) k s refl low read in
    let same : entry_of s ≡ entry = same_Some (entry_of s) entry (sym (slice_get-map entry_of satellites k ∙ ap (option_map entry_of) found) ∙ e) in
    ap (λ (x : Entry). x.elements) same
