-- A step of each loop that makes rows.
use Rattle.std.proofs.Common.{◌≡◌, ℕ, ◌+◌, ◌<◌, ◌≤◌, refl, sym, ap, subst, ◌∙◌, arith, List, [], ◌∷◌, ◌++◌, length, map, set, take, get_or, All, Option, Some, None, slice_get}
use Rattle.std.proofs.lemmas.List.{take_all, take_more_set}
use Rattle.std.proofs.lemmas.List.Elements.{All-get_or}
use Rattle.elements.specs.Elements.{ElementsRecord}
use Rattle.plan_core.specs.Certificate.{SettingRecord, light_of, sight_of}
use Rattle.plan_core.specs.Filled.{AreFilled, ArePairsMade, IsFilled}
use Rattle.plan_core.specs.Kept.{IsRowMade}
use Rattle.plan_core.specs.Readers.{IsReady}
use Rattle.plan_core.specs.State.{SatState, entry_of}
use Rattle.plan_core.proofs.FillLemmas.{filled_accepted, filled_push, pairs_push}
use Rattle.plan_core.proofs.ListLemmas.{some_at, take_push}
use Rattle.span_bisect.specs.declared.answer.TrackAnswer.{TrackAnswer}
use Rattle.span_pool.specs.Record.{PoolRecord}
use Rattle.station_file.specs.declared.row.StationRow.{StationRow}

-- with another answer for its light a satellite is ready
pub ready_with_lit : (setting : SettingRecord) (old new : SatState) (lit : TrackAnswer) → IsReady setting old → new ≡ record old { lit = lit } → IsReady setting new
ready_with_lit setting old new lit r e = subst (λ s. IsReady setting s) (sym e) (record { number = r.number; name = r.name; fate = r.fate; places = r.places })

-- with other answers of stations, as many, too
pub ready_with_pairs : (setting : SettingRecord) (old new : SatState) → IsReady setting old → new ≡ record old { pairs = new.pairs } → length new.pairs ≡ length old.pairs → IsReady setting new
ready_with_pairs setting old new r e len = subst (λ s. IsReady setting s) (sym e) (record { number = r.number; name = r.name; fate = r.fate; places = λ n. len ∙ r.places n })

-- answers of stations written over twice
pub same_but_pairs : (first mid new : SatState) (pairs : List TrackAnswer) → mid ≡ record first { pairs = mid.pairs } → new ≡ record mid { pairs = pairs } → new ≡ record first { pairs = new.pairs }
same_but_pairs first mid new pairs h e =
    e ∙ (λ i. record (h i) { pairs = pairs }) ∙ (λ i. record first { pairs = sym (ap (λ (s : SatState). s.pairs) e) i })

-- one more row of a satellite
pub pairs_step : (setting : SettingRecord) (satellite : ElementsRecord) (old mid new : PoolRecord) (pairs : List TrackAnswer) (k : ℕ) (answer : TrackAnswer) → k < length setting.stations.rows → k < length pairs → ArePairsMade setting satellite old mid (take k setting.stations.rows) (take k pairs) → ((row : StationRow) → slice_get setting.stations.rows k ≡ Some row → IsRowMade (sight_of setting satellite row) setting.window.resolution mid new answer) → ArePairsMade setting satellite old new (take (k + 1) setting.stations.rows) (take (k + 1) (set pairs k answer))
pairs_step setting satellite old mid new pairs k answer low fits made row =
    let station = some_at setting.stations.rows k low in
    let pushed = pairs_push setting satellite old mid new (take k setting.stations.rows) (take k pairs) station.0 answer made (row station.0 station.1) in
    subst (λ rows. ArePairsMade setting satellite old new rows (take (k + 1) (set pairs k answer))) (sym (take_push setting.stations.rows k station.0 station.1))
    (subst (λ answers. ArePairsMade setting satellite old new (take k setting.stations.rows ++ station.0 ∷ []) answers) (sym (take_more_set pairs k answer fits)) pushed)

-- all rows of a satellite
pub pairs_all : (setting : SettingRecord) (satellite : ElementsRecord) (old new : PoolRecord) (pairs : List TrackAnswer) (k : ℕ) → length setting.stations.rows ≤ k → length pairs ≤ k → ArePairsMade setting satellite old new (take k setting.stations.rows) (take k pairs) → ArePairsMade setting satellite old new setting.stations.rows pairs
pairs_all setting satellite old new pairs k all fits made =
    subst (λ rows. ArePairsMade setting satellite old new rows pairs) (take_all k setting.stations.rows all)
    (subst (λ answers. ArePairsMade setting satellite old new (take k setting.stations.rows) answers) (take_all k pairs fits) made)

-- what is there after both kinds of rows of an accepted satellite
pub record IsDone (setting : SettingRecord) (old new : PoolRecord) (first last : SatState) : Type 0 where
  pub filled : IsFilled setting old new last
  pub ready : IsReady setting last
  pub entry : entry_of last ≡ entry_of first
  pub fate : last.fate ≡ first.fate

pub done : (setting : SettingRecord) (old mid new : PoolRecord) (first lit last : SatState) → IsReady setting first → first.fate ≡ None → lit ≡ record first { lit = lit.lit } → IsRowMade (light_of setting.window first.set) setting.window.resolution old mid lit.lit → last ≡ record lit { pairs = last.pairs } → length last.pairs ≡ length lit.pairs → ArePairsMade setting lit.set mid new setting.stations.rows last.pairs → IsDone setting old new first last
done setting old mid new first lit last r e one light two len pairs =
    let set_lit : lit.set ≡ first.set = ap (λ (s : SatState). s.set) one in
    let set_last : last.set ≡ lit.set = ap (λ (s : SatState). s.set) two in
    let fate : last.fate ≡ first.fate = ap (λ (s : SatState). s.fate) two ∙ ap (λ (s : SatState). s.fate) one in
    let ready = ready_with_pairs setting lit last (ready_with_lit setting first lit lit.lit r one) two len in
    let same : last.lit ≡ lit.lit = ap (λ (s : SatState). s.lit) two in
    let made : IsRowMade (light_of setting.window last.set) setting.window.resolution old mid last.lit =
    subst (λ s. IsRowMade (light_of setting.window s) setting.window.resolution old mid last.lit) (sym (set_last ∙ set_lit))
    (subst (λ a. IsRowMade (light_of setting.window first.set) setting.window.resolution old mid a) (sym same) light) in
    let rows : ArePairsMade setting last.set mid new setting.stations.rows last.pairs =
    subst (λ s. ArePairsMade setting s mid new setting.stations.rows last.pairs) (sym set_last) pairs in
    record {
      filled = filled_accepted setting old mid new last (fate ∙ e) ready.fate made rows;
      ready = ready;
      entry = ap entry_of two ∙ ap entry_of one;
      fate = fate;
    }

-- one more satellite
pub filled_step : (setting : SettingRecord) (old mid new : PoolRecord) (satellites : List SatState) (k : ℕ) (satellite : SatState) → k < length satellites → AreFilled setting old mid (take k satellites) → IsFilled setting mid new satellite → AreFilled setting old new (take (k + 1) (set satellites k satellite))
filled_step setting old mid new satellites k satellite low filled one =
    subst (λ ss. AreFilled setting old new ss) (sym (take_more_set satellites k satellite low)) (filled_push setting old mid new (take k satellites) satellite filled one)

-- all satellites
pub filled_all : (setting : SettingRecord) (old new : PoolRecord) (satellites : List SatState) (k : ℕ) → length satellites ≤ k → AreFilled setting old new (take k satellites) → AreFilled setting old new satellites
filled_all setting old new satellites k all filled = subst (λ ss. AreFilled setting old new ss) (take_all k satellites all) filled
