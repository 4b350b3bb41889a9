-- The contacts of a station are no more than the spans of the plan.
use Rattle.std.proofs.Common.{◌≡◌, ℕ, ◌+◌, ◌<◌, ◌≤◌, ◌⊎◌, ◌∙◌, inl, inr, refl, sym, ap, arith, take, Bool, true, false, if◌then◌else◌, get_or, List, [], ◌∷◌, ◌++◌, length, map, Option, None, Some, slice_get}
use Rattle.std.specs.List.{filter, flat_map}
use Rattle.std.proofs.lemmas.List.{append-nil, append_assoc, length-append, length-map, map-append, take_all}
use Rattle.std.proofs.lemmas.List.Concat.{flat_map-append, flat_map-cons}
use Rattle.std.proofs.lemmas.List.Elements.{filter-append}
use Rattle.std.proofs.lemmas.List.Sums.{count_by-le-length, get_or-le-sum_by, length-filter, sum_by-cons}
use Rattle.std.proofs.lemmas.Option.{slice_get-map, slice_get_cases, slice_get_past, slice_get_within}
use Rattle.std.specs.Option.{option_map}
use Rattle.plan_core.specs.Certificate.{spans_in, spans_of}
use Rattle.plan_core.specs.Filled.{spans_in_all}
use Rattle.plan_core.specs.Contacts.{contacts_of, visible_in}
use Rattle.plan_core.specs.Readers.{listed, pair_by, pair_of}
use Rattle.plan_core.specs.State.{SatState, row_of, satellite_of, standing_by}
use Rattle.plan_core.specs.declared.sat_row.SatRow.{SatRow}
use Rattle.plan_core.proofs.ListLemmas.{some_at, take_push}
use Rattle.plan_text.specs.Plan.{RowRecord, SatelliteRecord, StandingRecord, pairs_of, planned, refused}
use Rattle.plan_text.specs.Timetable.{comes_before, contact_of, contacts_at, contacts_with, in_order, inserted, is_visible, list_of}
use Rattle.contact_alloc.specs.declared.bid.Contact.{Contact}
use Rattle.sgp4_model.specs.declared.span.Span.{Span}
use Rattle.sgp4_shape.specs.declared.fault.SatFault.{SatFault}
use Rattle.span_bisect.specs.Answer.{answer_spans}
use Rattle.span_bisect.specs.declared.answer.TrackAnswer.{TrackAnswer}
use Rattle.span_pool.specs.Record.{PoolRecord}

-- a row has no more spans than all of them
row_few : (rows : List RowRecord) (k : ℕ) → length (list_of (slice_get rows k)) ≤ spans_in rows
row_few rows k = by (slice_get_cases rows k).1
  where
    by : ((x : RowRecord) × (k < length rows) × (slice_get rows k ≡ Some x) × (get_or rows k x ≡ x)) ⊎ ((length rows ≤ k) × (slice_get rows k ≡ None)) → length (list_of (slice_get rows k)) ≤ spans_in rows
    by (inl h) =
        let low = get_or-le-sum_by (λ (r : RowRecord). length r.list) rows k h.0 h.1 in
        let same = ap (λ o. length (list_of o)) h.2 in
        omega (arith, low, same, ap (λ (r : RowRecord). length r.list) h.3)
    by (inr h) = omega (arith, ap (λ o. length (list_of o)) h.1)

-- nor have those that are visible
visible_few : (number : ℕ) (list : List Span) → length (visible_in number list) ≤ length list
visible_few number list =
    omega (arith, length-map (filter (λ (span : Span). is_visible span.mark) list) (contact_of number), length-filter (λ (span : Span). is_visible span.mark) list, count_by-le-length (λ (span : Span). is_visible span.mark) list)

-- the pair rows of a satellite
standing_few : (standing : StandingRecord) → spans_in (pairs_of standing) ≤ spans_of standing
standing_few (refused fault) = omega arith
standing_few (planned lit pairs) = omega arith

-- those of a satellite
satellite_few : (station : ℕ) (satellite : SatelliteRecord) → length (contacts_with station satellite) ≤ spans_of satellite.standing
satellite_few station s =
    omega (arith, visible_few s.number (list_of (slice_get (pairs_of s.standing) station)), row_few (pairs_of s.standing) station, standing_few s.standing)

-- those of all satellites
pub contacts_few : (station : ℕ) (satellites : List SatelliteRecord) → length (contacts_at station satellites) ≤ spans_in_all satellites
contacts_few station [] = omega arith
contacts_few station (s ∷ ss) =
    omega (arith, ap length (flat_map-cons (contacts_with station) s ss), length-append (contacts_with station s) (contacts_at station ss), satellite_few station s, contacts_few station ss, sum_by-cons (λ (x : SatelliteRecord). spans_of x.standing) s ss)

-- an inserted contact is one more
length_inserted : (contact : Contact) (list : List Contact) → length (inserted contact list) ≡ length list + 1
length_inserted contact [] = refl
length_inserted contact (first ∷ rest) = by (comes_before first contact) (length_inserted contact rest)
  where
    by : (before : Bool) → length (inserted contact rest) ≡ length rest + 1 → length (if before then first ∷ inserted contact rest else contact ∷ first ∷ rest) ≡ length (first ∷ rest) + 1
    by true h = omega (arith, h)
    by false h = omega arith

-- contacts in order are as many
pub length_in_order : (list : List Contact) → length (in_order list) ≡ length list
length_in_order [] = refl
length_in_order (first ∷ rest) = omega (arith, length_inserted first (in_order rest), length_in_order rest)

-- the visible ones of lists one after another
visible-append : (number : ℕ) (xs ys : List Span) → visible_in number (xs ++ ys) ≡ visible_in number xs ++ visible_in number ys
visible-append number xs ys =
    ap (map (contact_of number)) (filter-append (λ (span : Span). is_visible span.mark) xs ys)
    ∙ map-append (contact_of number) (filter (λ (span : Span). is_visible span.mark) xs) (filter (λ (span : Span). is_visible span.mark) ys)

-- one span that is visible, or is not
one_visible : (number : ℕ) (span : Span) (visible : Bool) → is_visible span.mark ≡ visible → visible_in number (span ∷ []) ≡ (if visible then contact_of number span ∷ [] else [])
one_visible number span true e = λ i. map (contact_of number) (if e i then span ∷ [] else [])
one_visible number span false e = λ i. map (contact_of number) (if e i then span ∷ [] else [])

-- one more span
more : (number : ℕ) (before now : List Contact) (list : List Span) (k : ℕ) (span : Span) → slice_get list k ≡ Some span → now ≡ before ++ visible_in number (take k list) → now ++ visible_in number (span ∷ []) ≡ before ++ visible_in number (take (k + 1) list)
more number before now list k span e h =
    ap (λ t. t ++ visible_in number (span ∷ [])) h
    ∙ append_assoc before (visible_in number (take k list)) (visible_in number (span ∷ []))
    ∙ ap (λ t. before ++ t) (sym (visible-append number (take k list) (span ∷ [])) ∙ ap (visible_in number) (sym (take_push list k span e)))

-- one that is visible is pushed
pub more_visible : (number : ℕ) (before now next : List Contact) (list : List Span) (k : ℕ) (span : Span) → slice_get list k ≡ Some span → now ≡ before ++ visible_in number (take k list) → is_visible span.mark ≡ true → next ≡ now ++ contact_of number span ∷ [] → next ≡ before ++ visible_in number (take (k + 1) list)
more_visible number before now next list k span e h seen pushed =
    pushed ∙ ap (λ t. now ++ t) (sym (one_visible number span true seen)) ∙ more number before now list k span e h

-- one that is not is passed over
pub more_hidden : (number : ℕ) (before now : List Contact) (list : List Span) (k : ℕ) (span : Span) → slice_get list k ≡ Some span → now ≡ before ++ visible_in number (take k list) → is_visible span.mark ≡ false → now ≡ before ++ visible_in number (take (k + 1) list)
more_hidden number before now list k span e h unseen =
    sym (append-nil now) ∙ ap (λ t. now ++ t) (sym (one_visible number span false unseen)) ∙ more number before now list k span e h

-- the contacts of a row that a reader gives, if it gives one
abbrev contacts_from : ℕ → PoolRecord → Option TrackAnswer → List Contact
contacts_from number pool None = []
contacts_from number pool (Some answer) = visible_in number (answer_spans pool answer)

-- those of a satellite, by its fate
contacts_by : (number : ℕ) (pool : PoolRecord) (lit : TrackAnswer) (pairs : List TrackAnswer) (fate : Option SatFault) (station : ℕ) → visible_in number (list_of (slice_get (pairs_of (standing_by pool lit pairs fate)) station)) ≡ contacts_from number pool (pair_by fate pairs station)
contacts_by number pool lit pairs (Some fault) station = ap (λ o. visible_in number (list_of o)) (slice_get_past {X = RowRecord} [] station (omega arith))
contacts_by number pool lit pairs None station =
    ap (λ o. visible_in number (list_of o)) (slice_get-map (row_of pool) pairs station) ∙ by (slice_get pairs station)
  where
    by : (o : Option TrackAnswer) → visible_in number (list_of (option_map (row_of pool) o)) ≡ contacts_from number pool o
    by None = refl
    by (Some answer) = refl

-- those that the readers give are those of the satellite
pub contacts_are : (pool : PoolRecord) (satellites : List SatState) (sat station : ℕ) (row : SatRow) (given : Option TrackAnswer) → sat < length satellites → Some row ≡ option_map listed (slice_get satellites sat) → given ≡ pair_of (slice_get satellites sat) station → contacts_of station (slice_get (map (satellite_of pool) satellites) sat) ≡ contacts_from row.number pool given
contacts_are pool satellites sat station row given low is e =
    let found = some_at satellites sat low in
    let s = found.0 in
    let same : row ≡ listed s = let both : Some row ≡ Some (listed s) = is ∙ ap (option_map listed) found.1 in cc in
    let number : row.number ≡ s.set.number = ap (λ (r : SatRow). r.number) same in
    let answer : given ≡ pair_by s.fate s.pairs station = e ∙ ap (λ o. pair_of o station) found.1 in
    ap (contacts_of station) (slice_get-map (satellite_of pool) satellites sat ∙ ap (option_map (satellite_of pool)) found.1)
    ∙ contacts_by s.set.number pool s.lit s.pairs s.fate station
    ∙ (λ i. contacts_from (sym number i) pool (sym answer i))

-- one more satellite
pub contacts_step : (station : ℕ) (satellites : List SatelliteRecord) (k : ℕ) (now next : List Contact) → k < length satellites → now ≡ contacts_at station (take k satellites) → next ≡ now ++ contacts_of station (slice_get satellites k) → next ≡ contacts_at station (take (k + 1) satellites)
contacts_step station satellites k now next low h e =
    let found = some_at satellites k low in
    let one : contacts_of station (slice_get satellites k) ≡ contacts_at station (found.0 ∷ []) = ap (contacts_of station) found.1 ∙ sym (append-nil (contacts_with station found.0)) in
    e ∙ (λ i. h i ++ one i) ∙ sym (flat_map-append (contacts_with station) (take k satellites) (found.0 ∷ [])) ∙ ap (contacts_at station) (sym (take_push satellites k found.0 found.1))

-- all satellites
pub contacts_all : (station : ℕ) (satellites : List SatelliteRecord) (k : ℕ) (now : List Contact) → length satellites ≤ k → now ≡ contacts_at station (take k satellites) → now ≡ contacts_at station satellites
contacts_all station satellites k now all h = h ∙ ap (contacts_at station) (take_all k satellites all)
