-- A plan whose rows were made is a plan, and certified.
use Rattle.std.proofs.Common.{◌≡◌, ℕ, ◌+◌, ◌≤◌, refl, sym, ap, subst, ◌∙◌, arith, List, [], ◌∷◌, length, map, All}
use Rattle.std.proofs.lemmas.List.{length-map}
use Rattle.std.proofs.lemmas.List.Elements.{All-cons, All-head, All-map, All-nil, All-tail}
use Rattle.std.proofs.lemmas.List.Sums.{sum_by-cons}
use Rattle.catalogue.specs.Entries.{most_entries}
use Rattle.catalogue.specs.declared.entry.Entry.{Entry}
use Rattle.elements.specs.Window.{IsWindow}
use Rattle.plan_core.specs.Certificate.{SettingRecord, AreSatellitesOf, IsPlanOf, spans_of}
use Rattle.plan_core.specs.Filled.{AreFilled, ArePlanned, IsMadeFromNone, IsPlanState, spans_in_all}
use Rattle.plan_core.specs.Kept.{HoldsRows}
use Rattle.plan_core.specs.Readers.{IsReady}
use Rattle.plan_core.specs.State.{PlanState, SatState, entry_of, plan_record, satellite_of}
use Rattle.plan_core.proofs.RowLemmas.{standing_has_rows}
use Rattle.plan_text.specs.Plan.{IsPlan, IsSatellite, SatelliteRecord, most_spans}
use Rattle.span_pool.specs.Record.{PoolRecord}
use Rattle.span_pool.specs.Pool.{slots_used}
use Rattle.station_file.specs.Rows as stations
use Rattle.station_file.specs.declared.row.StationRow.{StationRow}

-- the name of a station
abbrev name_of : StationRow → List ℕ
name_of row = row.name

-- the plan of these
abbrev pub plan_of : SettingRecord → List SatState → PoolRecord → ℕ → PlanState
plan_of setting satellites pool cells = record { setting = setting; satellites = satellites; pool = pool; cells = cells }

-- satellites whose rows are certified
satellites_are : (setting : SettingRecord) (slots used : ℕ) (pool : PoolRecord) (satellites : List SatState) → AreSatellitesOf setting slots used (map entry_of satellites) (map (satellite_of pool) satellites) → All (IsReady setting) satellites → spans_in_all (map (satellite_of pool) satellites) ≤ most_spans → All (IsSatellite setting.window.ticks (length setting.stations.rows)) (map (satellite_of pool) satellites)
satellites_are setting slots used pool [] h r few = All-nil (IsSatellite setting.window.ticks (length setting.stations.rows))
satellites_are setting slots used pool (s ∷ ss) h r few =
    let ready = All-head (IsReady setting) s ss r in
    let one = satellite_of pool s in
    let count = sum_by-cons (λ (x : SatelliteRecord). spans_of x.standing) one (map (satellite_of pool) ss) in
    let is : IsSatellite setting.window.ticks (length setting.stations.rows) one =
    record { number = ready.number; name = ready.name; rows = standing_has_rows setting slots s.set used one.standing h.0.standing (omega (arith, count)) } in
    let more = satellites_are setting slots (used + spans_of one.standing) pool ss h.1 (All-tail (IsReady setting) s ss r) (omega (arith, count)) in
    All-cons (IsSatellite setting.window.ticks (length setting.stations.rows)) one (map (satellite_of pool) ss) is more

-- the plan keeps what every plan does
pub state_is : (setting : SettingRecord) (satellites : List SatState) (pool : PoolRecord) (cells : ℕ) → IsMadeFromNone setting pool satellites → All (IsReady setting) satellites → length satellites ≤ most_entries → pool.slots ≤ most_spans → slots_used pool ≤ pool.slots → IsWindow setting.window → stations.AreStations setting.stations → IsPlanState (plan_of setting satellites pool cells)
state_is setting satellites pool cells m ready few slots used w s =
    let filled = m.filled in
    let count : spans_in_all (map (satellite_of pool) satellites) ≤ most_spans = omega (arith, filled.used, m.none) in
    let len = length-map setting.stations.rows name_of in
    let many = length-map satellites (satellite_of pool) in
    let all = satellites_are setting m.empty.slots (slots_used m.empty) pool satellites filled.are ready count in
    let is : IsPlan (plan_record (plan_of setting satellites pool cells)) =
    record {
      window = w;
      offset = (s.offset.low, s.offset.high);
      least = omega (arith, len, s.rows_are.least);
      most = omega (arith, len, s.rows_are.most);
      names = All-map stations.IsName name_of setting.stations.rows (λ i d k. (s.rows_are.rows_are.each i d k).name);
      few = omega (arith, many);
      satellites = subst (λ n. All (IsSatellite setting.window.ticks n) (map (satellite_of pool) satellites)) (sym len) all;
    } in
    record { is_plan = is; held = filled.held; few = count }

-- it is certified
pub plan_is : (setting : SettingRecord) (entries : List Entry) (satellites : List SatState) (empty pool : PoolRecord) (cells : ℕ) → AreFilled setting empty pool satellites → slots_used empty ≡ 0 → map entry_of satellites ≡ entries → IsPlanOf empty.slots entries setting (plan_record (plan_of setting satellites pool cells))
plan_is setting entries satellites empty pool cells filled none same = record {
  window = refl;
  offset = refl;
  stations = refl;
  satellites =
      subst (λ es. AreSatellitesOf setting empty.slots 0 es (map (satellite_of pool) satellites)) same
      (subst (λ n. AreSatellitesOf setting empty.slots n (map entry_of satellites) (map (satellite_of pool) satellites)) none filled.are);
}
