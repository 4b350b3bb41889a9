-- The rows of a certified plan, each at its place.
use Rattle.std.proofs.Common.{◌≡◌, refl, arith, ℕ, zero, suc, ◌+◌, List, [], ◌∷◌, length, Some, subst}
use Rattle.std.proofs.lemmas.Option.{none-some, same_Some}
use Rattle.std.specs.Prelude.{slice_get}
use Rattle.catalogue.specs.declared.entry.Entry.{Entry}
use Rattle.elements.specs.Elements.{ElementsRecord}
use Rattle.plan_command.specs.PlanLaws.{IsOfFate, ListsEach}
use Rattle.plan_command.specs.Rows.{IsAccepted, IsLightRow, IsPairRow}
use Rattle.plan_core.specs.Certificate.{ArePairRows, AreSatellitesOf, IsCertifiedRow, IsPlanOf, IsSatelliteOf, IsStanding, SettingRecord, light_of, sight_of, spans_of}
use Rattle.plan_text.specs.Plan.{PlanRecord, RowRecord, SatelliteRecord, StandingRecord, planned, refused}
use Rattle.station_file.specs.declared.row.StationRow.{StationRow}

-- the satellite at the place of an entry is that entry's
satellite_is : (setting : SettingRecord) (slots used : ℕ) (entries : List Entry) (satellites : List SatelliteRecord) → AreSatellitesOf setting slots used entries satellites →
    (k : ℕ) (entry : Entry) (satellite : SatelliteRecord) → slice_get entries k ≡ Some entry → slice_get satellites k ≡ Some satellite →
    (n : ℕ) × IsSatelliteOf setting slots n entry satellite
satellite_is setting slots used [] [] h k entry satellite e f = absurd (none-some entry e)
satellite_is setting slots used [] (s ∷ ss) h k entry satellite e f = absurd h
satellite_is setting slots used (x ∷ xs) [] h k entry satellite e f = absurd h
satellite_is setting slots used (x ∷ xs) (s ∷ ss) h zero entry satellite e f =
    (used, subst (λ y. IsSatelliteOf setting slots used y satellite) (same_Some x entry e) (subst (λ t. IsSatelliteOf setting slots used x t) (same_Some s satellite f) h.0))
satellite_is setting slots used (x ∷ xs) (s ∷ ss) h (suc k) entry satellite e f =
    satellite_is setting slots (used + spans_of s.standing) xs ss h.1 k entry satellite e f

-- there are as many
as_many : (setting : SettingRecord) (slots used : ℕ) (entries : List Entry) (satellites : List SatelliteRecord) → AreSatellitesOf setting slots used entries satellites → length satellites ≡ length entries
as_many setting slots used [] [] h = refl
as_many setting slots used [] (s ∷ ss) h = absurd h
as_many setting slots used (x ∷ xs) [] h = absurd h
as_many setting slots used (x ∷ xs) (s ∷ ss) h = omega (arith, as_many setting slots (used + spans_of s.standing) xs ss h.1)

-- the row at the place of a station is that station's
pair_is : (setting : SettingRecord) (slots : ℕ) (set : ElementsRecord) (used : ℕ) (stations : List StationRow) (rows : List RowRecord) → ArePairRows setting slots set used stations rows →
    (k : ℕ) (station : StationRow) (row : RowRecord) → slice_get stations k ≡ Some station → slice_get rows k ≡ Some row →
    (n : ℕ) × IsCertifiedRow (sight_of setting set station) setting.window.resolution slots n row
pair_is setting slots set used [] [] h k station row e f = absurd (none-some station e)
pair_is setting slots set used [] (r ∷ rs) h k station row e f = absurd h
pair_is setting slots set used (s ∷ ss) [] h k station row e f = absurd h
pair_is setting slots set used (s ∷ ss) (r ∷ rs) h zero station row e f = (
  used,
  subst (λ t. IsCertifiedRow (sight_of setting set t) setting.window.resolution slots used row) (same_Some s station e)
      (subst (λ t. IsCertifiedRow (sight_of setting set s) setting.window.resolution slots used t) (same_Some r row f) h.0),
)
pair_is setting slots set used (s ∷ ss) (r ∷ rs) h (suc k) station row e f =
    pair_is setting slots set (used + length r.list) ss rs h.1 k station row e f

-- there are as many as stations
pairs_many : (setting : SettingRecord) (slots : ℕ) (set : ElementsRecord) (used : ℕ) (stations : List StationRow) (rows : List RowRecord) → ArePairRows setting slots set used stations rows → length rows ≡ length stations
pairs_many setting slots set used [] [] h = refl
pairs_many setting slots set used [] (r ∷ rs) h = absurd h
pairs_many setting slots set used (s ∷ ss) [] h = absurd h
pairs_many setting slots set used (s ∷ ss) (r ∷ rs) h = omega (arith, pairs_many setting slots set (used + length r.list) ss rs h.1)

-- a satellite is listed as its standing says
listed_by : (setting : SettingRecord) (slots used : ℕ) (entry : Entry) (standing : StandingRecord) → IsStanding setting slots entry.elements used standing → IsOfFate setting entry standing
listed_by setting slots used entry (refused fault) h = h
listed_by setting slots used entry (planned light pairs) h =
    (h.0, pairs_many setting slots entry.elements (used + length light.list) setting.stations.rows pairs h.2)

pub lists_each : (slots : ℕ) (entries : List Entry) (setting : SettingRecord) (plan : PlanRecord) → IsPlanOf slots entries setting plan → ListsEach entries setting plan
lists_each slots entries setting plan h = record {
  count = as_many setting slots 0 entries plan.satellites h.satellites;
  each = λ k entry satellite e f.
      let found = satellite_is setting slots 0 entries plan.satellites h.satellites k entry satellite e f in
      record { number = found.1.number; name = found.1.name; fate = listed_by setting slots found.0 entry satellite.standing found.1.standing };
}

-- what is certified of a satellite that is accepted
accepted : (slots : ℕ) (entries : List Entry) (setting : SettingRecord) (plan : PlanRecord) → IsPlanOf slots entries setting plan →
    (entry : Entry) (light : RowRecord) (pairs : List RowRecord) → IsAccepted entries plan entry light pairs →
    (n : ℕ) × IsStanding setting slots entry.elements n (planned light pairs)
accepted slots entries setting plan h entry light pairs is =
    let found = satellite_is setting slots 0 entries plan.satellites h.satellites is.place entry is.satellite is.entry_is is.satellite_is in
    (found.0, subst (λ s. IsStanding setting slots entry.elements found.0 s) is.accepted found.1.standing)

pub light_is_certified : (slots : ℕ) (entries : List Entry) (setting : SettingRecord) (plan : PlanRecord) → IsPlanOf slots entries setting plan →
    (entry : Entry) (row : RowRecord) → IsLightRow entries plan entry row →
    (n : ℕ) × IsCertifiedRow (light_of setting.window entry.elements) setting.window.resolution slots n row
light_is_certified slots entries setting plan h entry row is =
    let found = accepted slots entries setting plan h entry row is.pairs is.accepted in
    (found.0, found.1.1)

pub pair_is_certified : (slots : ℕ) (entries : List Entry) (setting : SettingRecord) (plan : PlanRecord) → IsPlanOf slots entries setting plan →
    (entry : Entry) (station : StationRow) (row : RowRecord) → IsPairRow entries setting.stations.rows plan entry station row →
    (n : ℕ) × IsCertifiedRow (sight_of setting entry.elements station) setting.window.resolution slots n row
pair_is_certified slots entries setting plan h entry station row is =
    let found = accepted slots entries setting plan h entry is.light is.pairs is.accepted in
    pair_is setting slots entry.elements (found.0 + length is.light.list) setting.stations.rows is.pairs found.1.2 is.place station row is.station_is is.row_is
