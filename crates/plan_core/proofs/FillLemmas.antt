-- Rows that are made one after another are those of a plan.
use Rattle.std.proofs.Common.{◌≡◌, ℕ, ◌+◌, refl, sym, ap, subst, ◌∙◌, arith, add-zero, List, [], ◌∷◌, ◌++◌, length, map, All, Option, None, Some}
use Rattle.std.specs.List.{sum_by}
use Rattle.std.proofs.lemmas.List.{map_push}
use Rattle.std.proofs.lemmas.List.Elements.{All-nil, All-push}
use Rattle.std.proofs.lemmas.List.Sums.{sum_by-cons, sum_by_push}
use Rattle.catalogue.specs.declared.entry.Entry.{Entry}
use Rattle.elements.specs.Elements.{ElementsRecord}
use Rattle.plan_core.specs.Certificate.{SettingRecord, ArePairRows, AreSatellitesOf, IsCertifiedRow, IsSatelliteOf, IsStanding, light_of, sight_of, spans_in, spans_of}
use Rattle.plan_core.specs.Fates.{IsFate}
use Rattle.plan_core.specs.Filled.{AreFilled, ArePairsMade, IsFilled, spans_in_all}
use Rattle.plan_core.specs.Kept.{HoldsRows, IsKept, IsRowMade}
use Rattle.plan_core.specs.Readers.{IsReady}
use Rattle.plan_core.specs.State.{SatState, entry_of, row_of, satellite_of, standing_by}
use Rattle.plan_core.proofs.KeptLemmas.{kept_same, kept_twice, made_held, made_keeps, made_used, still_answer, still_answers, still_satellites}
use Rattle.plan_text.specs.Plan.{RowRecord, SatelliteRecord, planned}
use Rattle.sgp4_shape.specs.declared.fault.SatFault.{SatFault}
use Rattle.span_bisect.specs.Answer.{IsHeld}
use Rattle.span_bisect.specs.declared.answer.TrackAnswer.{TrackAnswer}
use Rattle.span_pool.specs.Record.{PoolRecord}
use Rattle.span_pool.specs.Pool.{slots_used}
use Rattle.station_file.specs.declared.row.StationRow.{StationRow}

-- the spans of a row, and those of a satellite
abbrev count_row : RowRecord → ℕ
count_row row = length row.list

abbrev count_satellite : SatelliteRecord → ℕ
count_satellite satellite = spans_of satellite.standing

-- one more row
rows_push : (setting : SettingRecord) (slots : ℕ) (set : ElementsRecord) (used : ℕ) (stations : List StationRow) (rows : List RowRecord) (station : StationRow) (row : RowRecord) → ArePairRows setting slots set used stations rows → IsCertifiedRow (sight_of setting set station) setting.window.resolution slots (used + spans_in rows) row → ArePairRows setting slots set used (stations ++ station ∷ []) (rows ++ row ∷ [])
rows_push setting slots set used [] [] station row p h = (subst (λ n. IsCertifiedRow (sight_of setting set station) setting.window.resolution slots n row) (add-zero used) h, tt)
rows_push setting slots set used [] (r ∷ rs) station row p h = absurd p
rows_push setting slots set used (s ∷ ss) [] station row p h = absurd p
rows_push setting slots set used (s ∷ ss) (r ∷ rs) station row p h =
    let count : used + spans_in (r ∷ rs) ≡ used + length r.list + spans_in rs = omega (arith, sum_by-cons count_row r rs) in
    (p.0, rows_push setting slots set (used + length r.list) ss rs station row p.1 (subst (λ n. IsCertifiedRow (sight_of setting set station) setting.window.resolution slots n row) count h))

-- no rows
pub pairs_none : (setting : SettingRecord) (set : ElementsRecord) (pool : PoolRecord) → ArePairsMade setting set pool pool [] []
pairs_none setting set pool = record { kept = kept_same pool; held = All-nil (IsHeld pool); used = sym (add-zero (slots_used pool)); rows = tt }

-- one more row of a satellite
pub pairs_push : (setting : SettingRecord) (set : ElementsRecord) (old mid new : PoolRecord) (stations : List StationRow) (answers : List TrackAnswer) (station : StationRow) (answer : TrackAnswer) → ArePairsMade setting set old mid stations answers → IsRowMade (sight_of setting set station) setting.window.resolution mid new answer → ArePairsMade setting set old new (stations ++ station ∷ []) (answers ++ answer ∷ [])
pairs_push setting set old mid new stations answers station answer p h =
    let keeps = made_keeps _ _ mid new answer h in
    let still = still_answers mid new keeps answers p.held in
    let row = row_of new answer in
    let rows : List RowRecord = map (row_of mid) answers in
    let all : map (row_of new) (answers ++ answer ∷ []) ≡ rows ++ row ∷ [] = map_push (row_of new) answers answer ∙ ap (λ rs. rs ++ row ∷ []) still.1 in
    let count = sum_by_push count_row rows row in
    let taken = made_used _ _ mid new answer h in
    let certified : IsCertifiedRow (sight_of setting set station) setting.window.resolution old.slots (slots_used old + spans_in rows) row =
    subst (λ n. IsCertifiedRow (sight_of setting set station) setting.window.resolution n (slots_used old + spans_in rows) row) p.kept.slots
    (subst (λ n. IsCertifiedRow (sight_of setting set station) setting.window.resolution mid.slots n row) p.used h.certified) in
    record {
      kept = kept_twice old mid new p.kept keeps;
      held = All-push (IsHeld new) answers answer still.0 (made_held _ _ mid new answer h);
      used = omega (arith, taken, p.used, count, ap spans_in all);
      rows = subst (λ rs. ArePairRows setting old.slots set (slots_used old) (stations ++ station ∷ []) rs) (sym all) (rows_push setting old.slots set (slots_used old) stations rows station row p.rows certified);
    }

-- a satellite with its rows, by its fate
standing_filled : (setting : SettingRecord) (old mid new : PoolRecord) (set : ElementsRecord) (lit : TrackAnswer) (pairs : List TrackAnswer) (fate : Option SatFault) → fate ≡ None → IsFate setting.window set fate → IsRowMade (light_of setting.window set) setting.window.resolution old mid lit → ArePairsMade setting set mid new setting.stations.rows pairs → IsStanding setting old.slots set (slots_used old) (standing_by new lit pairs fate) × (slots_used new ≡ slots_used old + spans_of (standing_by new lit pairs fate))
standing_filled setting old mid new set lit pairs (Some fault) e f h p = absurd (cc)
standing_filled setting old mid new set lit pairs None e f h p =
    let keeps = made_keeps _ _ old mid lit h in
    let still = still_answer mid new p.kept lit (made_held _ _ old mid lit h) in
    let taken = made_used _ _ old mid lit h in
    let same : length (row_of new lit).list ≡ length (row_of mid lit).list = ap count_row still.1 in
    let light : IsCertifiedRow (light_of setting.window set) setting.window.resolution old.slots (slots_used old) (row_of new lit) =
    subst (λ r. IsCertifiedRow (light_of setting.window set) setting.window.resolution old.slots (slots_used old) r) (sym still.1) h.certified in
    let count : slots_used mid ≡ slots_used old + length (row_of new lit).list = omega arith in
    let rows : ArePairRows setting old.slots set (slots_used old + length (row_of new lit).list) setting.stations.rows (map (row_of new) pairs) =
    subst (λ n. ArePairRows setting n set (slots_used old + length (row_of new lit).list) setting.stations.rows (map (row_of new) pairs)) keeps.slots
    (subst (λ n. ArePairRows setting mid.slots set n setting.stations.rows (map (row_of new) pairs)) count p.rows) in
    ((f.accepted, light, rows), omega (arith, p.used, count))

-- a satellite that is accepted
pub filled_accepted : (setting : SettingRecord) (old mid new : PoolRecord) (satellite : SatState) → satellite.fate ≡ None → IsFate setting.window satellite.set satellite.fate → IsRowMade (light_of setting.window satellite.set) setting.window.resolution old mid satellite.lit → ArePairsMade setting satellite.set mid new setting.stations.rows satellite.pairs → IsFilled setting old new satellite
filled_accepted setting old mid new s e f h p =
    let standing = standing_filled setting old mid new s.set s.lit s.pairs s.fate e f h p in
    record {
      kept = kept_twice old mid new (made_keeps _ _ old mid s.lit h) p.kept;
      held = record { lit = λ _. (still_answer mid new p.kept s.lit (made_held _ _ old mid s.lit h)).0; pairs = λ _. p.held };
      used = standing.1;
      is = record { number = refl; name = refl; standing = standing.0 };
    }

-- what is made of a satellite that is refused
standing_refused : (setting : SettingRecord) (pool : PoolRecord) (set : ElementsRecord) (lit : TrackAnswer) (pairs : List TrackAnswer) (fate : Option SatFault) → ¬ (fate ≡ None) → IsFate setting.window set fate → IsStanding setting pool.slots set (slots_used pool) (standing_by pool lit pairs fate) × (slots_used pool ≡ slots_used pool + spans_of (standing_by pool lit pairs fate))
standing_refused setting pool set lit pairs None n f = absurd (n refl)
standing_refused setting pool set lit pairs (Some fault) n f = (f.refused, sym (add-zero (slots_used pool)))

-- a satellite that is refused
pub filled_refused : (setting : SettingRecord) (pool : PoolRecord) (satellite : SatState) → ¬ (satellite.fate ≡ None) → IsFate setting.window satellite.set satellite.fate → IsFilled setting pool pool satellite
filled_refused setting pool s n f =
    let standing = standing_refused setting pool s.set s.lit s.pairs s.fate n f in
    record {
      kept = kept_same pool;
      held = record { lit = λ e. absurd (n e); pairs = λ e. absurd (n e) };
      used = standing.1;
      is = record { number = refl; name = refl; standing = standing.0 };
    }

-- one more satellite
satellites_push : (setting : SettingRecord) (slots used : ℕ) (entries : List Entry) (satellites : List SatelliteRecord) (entry : Entry) (satellite : SatelliteRecord) → AreSatellitesOf setting slots used entries satellites → IsSatelliteOf setting slots (used + spans_in_all satellites) entry satellite → AreSatellitesOf setting slots used (entries ++ entry ∷ []) (satellites ++ satellite ∷ [])
satellites_push setting slots used [] [] entry satellite p h = (subst (λ n. IsSatelliteOf setting slots n entry satellite) (add-zero used) h, tt)
satellites_push setting slots used [] (s ∷ ss) entry satellite p h = absurd p
satellites_push setting slots used (e ∷ es) [] entry satellite p h = absurd p
satellites_push setting slots used (e ∷ es) (s ∷ ss) entry satellite p h =
    let count : used + spans_in_all (s ∷ ss) ≡ used + spans_of s.standing + spans_in_all ss = omega (arith, sum_by-cons count_satellite s ss) in
    (p.0, satellites_push setting slots (used + spans_of s.standing) es ss entry satellite p.1 (subst (λ n. IsSatelliteOf setting slots n entry satellite) count h))

-- no satellite
pub filled_none : (setting : SettingRecord) (pool : PoolRecord) → AreFilled setting pool pool []
filled_none setting pool = record { kept = kept_same pool; held = All-nil (HoldsRows pool); used = sym (add-zero (slots_used pool)); are = tt }

-- one more satellite with its rows
pub filled_push : (setting : SettingRecord) (old mid new : PoolRecord) (satellites : List SatState) (satellite : SatState) → AreFilled setting old mid satellites → IsFilled setting mid new satellite → AreFilled setting old new (satellites ++ satellite ∷ [])
filled_push setting old mid new satellites satellite p h =
    let still = still_satellites mid new h.kept satellites p.held in
    let one = satellite_of new satellite in
    let earlier : List SatelliteRecord = map (satellite_of mid) satellites in
    let all : map (satellite_of new) (satellites ++ satellite ∷ []) ≡ earlier ++ one ∷ [] = map_push (satellite_of new) satellites satellite ∙ ap (λ ss. ss ++ one ∷ []) still.1 in
    let count = sum_by_push count_satellite earlier one in
    let is : IsSatelliteOf setting old.slots (slots_used old + spans_in_all earlier) (entry_of satellite) one =
    subst (λ n. IsSatelliteOf setting n (slots_used old + spans_in_all earlier) (entry_of satellite) one) p.kept.slots
    (subst (λ n. IsSatelliteOf setting mid.slots n (entry_of satellite) one) p.used h.is) in
    let pushed = satellites_push setting old.slots (slots_used old) (map entry_of satellites) earlier (entry_of satellite) one p.are is in
    record {
      kept = kept_twice old mid new p.kept h.kept;
      held = All-push (HoldsRows new) satellites satellite still.0 h.held;
      used = omega (arith, h.used, p.used, count, ap spans_in_all all);
      are =
          subst (λ es. AreSatellitesOf setting old.slots (slots_used old) es (map (satellite_of new) (satellites ++ satellite ∷ []))) (sym (map_push entry_of satellites satellite))
          (subst (λ ss. AreSatellitesOf setting old.slots (slots_used old) (map entry_of satellites ++ entry_of satellite ∷ []) ss) (sym all) pushed);
    }
