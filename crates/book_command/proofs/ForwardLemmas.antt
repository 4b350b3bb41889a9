-- The contacts of a certified plan end after they begin.
use Rattle.std.proofs.Common.{◌≡◌, refl, ℕ, ◌+◌, ◌<◌, List, [], ◌∷◌, length, All, Option, None, Some, Ok, sym, subst}
use Rattle.std.proofs.lemmas.List.Concat.{flat_map-cons}
use Rattle.std.proofs.lemmas.List.Elements.{All-append, All-cons, All-filter, All-map, All-nil, All-same}
use Rattle.std.proofs.lemmas.List.Sorted.{All-permutation}
use Rattle.std.specs.List.{filter}
use Rattle.std.specs.Prelude.{slice_get}
use Rattle.book_command.specs.Bookings.{AreBooked, AreForward, IsForward}
use Rattle.book_command.specs.Made.{IsBookFor, IsBookOf}
use Rattle.book_command.specs.State.{BookState}
use Rattle.catalogue.specs.declared.entry.Entry.{Entry}
use Rattle.elements.specs.Elements.{ElementsRecord}
use Rattle.elements.specs.Window.{WindowRecord}
use Rattle.plan_command.proofs.LawLemmas.{clear_rows_are_resolved}
use Rattle.plan_command.proofs.PartLemmas.{all_at}
use Rattle.plan_command.specs.Planned.{IsPlanFor, IsPlannedAt, setting_of}
use Rattle.plan_core.specs.Certificate.{ArePairRows, AreSatellitesOf, IsPlanOf, IsStanding, SettingRecord, sight_of, spans_of}
use Rattle.plan_core.specs.State.{PlanState, plan_record}
use Rattle.plan_text.specs.Plan.{PlanRecord, RowRecord, SatelliteRecord, StandingRecord, most_spans, pairs_of, planned, refused}
use Rattle.plan_text.specs.Timetable.{contact_of, contacts_at, contacts_with, is_visible, list_of, timetable}
use Rattle.plan_text.proofs.TimetableLemmas.{timetables_are_in_order}
use Rattle.run_ends.specs.Files.{IsAnswerOf, catalogue_at}
use Rattle.sgp4_model.specs.Certified.{IsCertified, Leads, TrackRecord}
use Rattle.sgp4_model.specs.Records.{AnswerRecord, spans, unresolved, full, decays}
use Rattle.sgp4_model.specs.declared.span.Span.{Span}
use Rattle.station_file.specs.Rows.{StationsRecord}
use Rattle.station_file.specs.StationFile.{station_value}
use Rattle.station_file.specs.declared.row.StationRow.{StationRow}

-- a span ends after it begins
abbrev IsLonger : Span → Type 0
IsLonger span = span.from < span.to

-- so do all spans of a row
abbrev AreLonger : RowRecord → Type 0
AreLonger row = All IsLonger row.list

-- spans that lead on are longer than none
leads_on : (list : List Span) (from to : ℕ) → Leads from list to → All IsLonger list
leads_on [] from to h = All-nil IsLonger
leads_on (first ∷ rest) from to h = All-cons IsLonger first rest h.1 (leads_on rest first.to to h.2)

-- so are those of a certified row
certified_on : (track : TrackRecord) (resolution slots used : ℕ) (answer : AnswerRecord) (list : List Span) → IsCertified track resolution slots used answer list → All IsLonger list
certified_on track resolution slots used (spans count) list h = leads_on list 0 track.ticks h.0.tiles
certified_on track resolution slots used (unresolved from to) list h = rw h.1 (All-nil IsLonger)
certified_on track resolution slots used (full at) list h = rw h.1 (All-nil IsLonger)
certified_on track resolution slots used (decays at) list h = rw h.1 (All-nil IsLonger)

-- those of the rows at the stations
pairs_on : (setting : SettingRecord) (slots : ℕ) (set : ElementsRecord) (used : ℕ) (stations : List StationRow) (rows : List RowRecord) → ArePairRows setting slots set used stations rows → All AreLonger rows
pairs_on setting slots set used [] [] h = All-nil AreLonger
pairs_on setting slots set used [] (r ∷ rs) h = absurd h
pairs_on setting slots set used (s ∷ ss) [] h = absurd h
pairs_on setting slots set used (s ∷ ss) (r ∷ rs) h =
    All-cons AreLonger r rs (certified_on (sight_of setting set s) setting.window.resolution slots used r.answer r.list h.0)
    (pairs_on setting slots set (used + length r.list) ss rs h.1)

standing_on : (setting : SettingRecord) (slots : ℕ) (set : ElementsRecord) (used : ℕ) (standing : StandingRecord) → IsStanding setting slots set used standing → All AreLonger (pairs_of standing)
standing_on setting slots set used (refused fault) h = All-nil AreLonger
standing_on setting slots set used (planned lit pairs) h = pairs_on setting slots set (used + length lit.list) setting.stations.rows pairs h.2

-- those of the row at a station, if there is one
row_on : (rows : List RowRecord) (k : ℕ) (o : Option RowRecord) → slice_get rows k ≡ o → All AreLonger rows → All IsLonger (list_of o)
row_on rows k None e h = All-nil IsLonger
row_on rows k (Some row) e h = all_at AreLonger rows k row e h

-- ---- contacts
-- those of a satellite
satellite_forward : (station : ℕ) (satellite : SatelliteRecord) → All AreLonger (pairs_of satellite.standing) → All IsForward (contacts_with station satellite)
satellite_forward station satellite h =
    let rows = pairs_of satellite.standing in
    let list = list_of (slice_get rows station) in
    let seen = filter (λ (span : Span). is_visible span.mark) list in
    All-map IsForward (contact_of satellite.number) seen
    (All-filter (λ (span : Span). is_visible span.mark) IsLonger list (row_on rows station (slice_get rows station) refl h))

-- those of all
all_forward : (setting : SettingRecord) (slots used station : ℕ) (entries : List Entry) (satellites : List SatelliteRecord) → AreSatellitesOf setting slots used entries satellites → All IsForward (contacts_at station satellites)
all_forward setting slots used station [] [] h = All-nil IsForward
all_forward setting slots used station [] (s ∷ ss) h = absurd h
all_forward setting slots used station (x ∷ xs) [] h = absurd h
all_forward setting slots used station (x ∷ xs) (s ∷ ss) h =
    All-same IsForward _ _ (flat_map-cons (contacts_with station) s ss)
    (All-append IsForward (contacts_with station s) (contacts_at station ss)
    (satellite_forward station s (standing_on setting slots x.elements used s.standing h.0.standing))
    (all_forward setting slots (used + spans_of s.standing) station xs ss h.1))

pub are_forward : (slots : ℕ) (entries : List Entry) (setting : SettingRecord) (plan : PlanRecord) → IsPlanOf slots entries setting plan → AreForward plan
are_forward slots entries setting plan h station =
    All-permutation IsForward (contacts_at station plan.satellites) (timetable plan station)
    (timetables_are_in_order plan station).0.moves (all_forward setting slots 0 station entries plan.satellites h.satellites)

-- ---- the plan of a run
-- a plan that is certified for the entries and the stations that were read is as the command `plan` says
pub planned_at : {catalogue stations : Option (List ℕ)} {window : WindowRecord} {entries : List Entry} {places : StationsRecord} (plan : PlanState) →
    IsAnswerOf (catalogue_at window.start) catalogue (Ok entries) → IsAnswerOf station_value stations (Ok places) → IsPlanFor entries places window plan →
    IsPlannedAt catalogue stations window (plan_record plan)
planned_at {window = window} {entries} {places} plan of_catalogue of_stations h = record {
  entries = entries;
  places = places;
  of_catalogue = of_catalogue;
  of_stations = of_stations;
  certified = h.certified;
  resolved = clear_rows_are_resolved most_spans entries (setting_of places window) (plan_record plan) h.certified;
  none_lost = h.none_lost;
}

-- its contacts end after they begin
pub planned_forward : (entries : List Entry) (places : StationsRecord) (window : WindowRecord) (plan : PlanState) → IsPlanFor entries places window plan → AreForward (plan_record plan)
planned_forward entries places window plan h = are_forward most_spans entries (setting_of places window) (plan_record plan) h.certified

-- such a plan with its bookings
pub book_for : {entries : List Entry} {places : StationsRecord} {window : WindowRecord} {antennas : ℕ} {plan : PlanState} {book : BookState} →
    IsPlanFor entries places window plan → IsBookOf plan antennas book → IsBookFor entries places window antennas book
book_for {entries} {places} {window} {antennas} {plan} {book} h is = record {
  plan = subst (IsPlanFor entries places window) (sym is.plan_is) h;
  booked = subst (λ p. AreBooked (plan_record p) antennas book.bookings) (sym is.plan_is) is.booked;
}
