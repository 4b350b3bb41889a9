-- The rows that the readers of a plan give.
use Rattle.std.proofs.Common.{◌≡◌, refl, arith, ℕ, ◌+◌, ◌<◌, ◌≤◌, List, [], ◌∷◌, length, Bool, take, get_or, ◌⊎◌, inl, inr, Option, None, Some, sym, ap, ◌∙◌}
use Rattle.std.proofs.lemmas.Option.{same_Some, slice_get-map, slice_get_cases}
use Rattle.std.specs.Option.{option_map}
use Rattle.std.proofs.lemmas.List.{append-nil}
use Rattle.std.proofs.lemmas.List.Sums.{sum_by_push}
use Rattle.std.specs.Prelude.{cond, is_some, slice_get}
use Rattle.grid_command.specs.Tally.{tally_of, tally_of_spans}
use Rattle.grid_command.proofs.FitLemmas.{one_satellite, tally_of_satellites}
use Rattle.grid_command.proofs.TallyLemmas.{take_push}
use Rattle.grid_command.proofs.TickLemmas.{refused_among}
use Rattle.plan_command.specs.Parts.{pair_rows}
use Rattle.plan_core.specs.Readers.{listed}
use Rattle.plan_core.specs.State.{PlanState, SatState, plan_record, row_of, satellite_of, standing_by}
use Rattle.plan_core.specs.declared.sat_row.SatRow.{SatRow}
use Rattle.plan_text.specs.Plan.{SatelliteRecord}
use Rattle.plan_text.specs.Summary.{is_refused}
use Rattle.sgp4_shape.specs.declared.fault.SatFault.{SatFault}
use Rattle.span_bisect.specs.declared.answer.TrackAnswer.{TrackAnswer}
use Rattle.span_bisect.specs.declared.answer.TrackAnswer.TheVariants.{Spans}
use Rattle.span_pool.specs.Pool.{list_of}
use Rattle.span_pool.specs.declared.track.Track.{Track}
use Rattle.span_pool.specs.Record.{PoolRecord}

-- there is a satellite at each place, and it is in the plan in plain words
pub record IsThere (plan : PlanState) (k : ℕ) : Type 0 where
  pub satellite : SatState
  pub state : slice_get plan.satellites k ≡ Some satellite
  pub plain : slice_get (plan_record plan).satellites k ≡ Some (satellite_of plan.pool satellite)

pub there : (plan : PlanState) (k : ℕ) → k < length plan.satellites → IsThere plan k
there plan k low = by (slice_get_cases plan.satellites k).1
  where
    by : ((x : SatState) × (k < length plan.satellites) × (slice_get plan.satellites k ≡ Some x) × (get_or plan.satellites k x ≡ x)) ⊎ ((length plan.satellites ≤ k) × (slice_get plan.satellites k ≡ None)) → IsThere plan k
    by (inl h) = record {
      satellite = h.0;
      state = h.2;
      plain = slice_get-map (satellite_of plan.pool) plan.satellites k ∙ ap (option_map (satellite_of plan.pool)) h.2;
    }
    by (inr h) = absurd (omega (arith, h.0))

-- the counts of its rows are those of the satellite in plain words
pub rows_of : (plan : PlanState) (k : ℕ) (s : SatState) → slice_get plan.satellites k ≡ Some s →
    tally_of (pair_rows plan (slice_get plan.satellites k)) ≡ tally_of_satellites (satellite_of plan.pool s ∷ [])
rows_of plan k s e = ap (λ o. tally_of (pair_rows plan o)) e ∙ sym (one_satellite (satellite_of plan.pool s))

-- whether it is refused
refused_by : (pool : PoolRecord) (lit : TrackAnswer) (pairs : List TrackAnswer) (fate : Option SatFault) → is_refused (standing_by pool lit pairs fate) ≡ is_some fate
refused_by pool lit pairs None = refl
refused_by pool lit pairs (Some fault) = refl

pub is_refused_at : (plan : PlanState) (k : ℕ) (s : SatState) (row : SatRow) → slice_get plan.satellites k ≡ Some s → Some row ≡ option_map listed (slice_get plan.satellites k) →
    is_refused (satellite_of plan.pool s).standing ≡ is_some row.fate
is_refused_at plan k s row e is =
    let same : row ≡ listed s = same_Some row (listed s) (is ∙ ap (option_map listed) e) in
    refused_by plan.pool s.lit s.pairs s.fate ∙ ap (λ (r : SatRow). is_some r.fate) (sym same)

-- how many are refused with one more satellite
pub refused_more : (xs : List SatelliteRecord) (k : ℕ) (s : SatelliteRecord) (b : Bool) → slice_get xs k ≡ Some s → is_refused s.standing ≡ b →
    refused_among (take (k + 1) xs) ≡ refused_among (take k xs) + cond b 1 0
refused_more xs k s b e h =
    ap refused_among (take_push xs k s e) ∙ sum_by_push (λ (satellite : SatelliteRecord). cond (is_refused satellite.standing) 1 0) (take k xs) s
    ∙ ap (λ t. refused_among (take k xs) + cond t 1 0) h

-- the counts of a row that is spans are those of its spans
pub row_of_track : (pool : PoolRecord) (answer : TrackAnswer) (track : Track) → answer ≡ Spans track → tally_of (row_of pool answer ∷ []) ≡ tally_of_spans (list_of pool track)
row_of_track pool answer track e =
    ap (λ (a : TrackAnswer). tally_of (row_of pool a ∷ [])) e ∙ ap tally_of_spans (append-nil (list_of pool track))
