-- Timetables: one for each station, and contacts that lie in the window.
use Rattle.std.proofs.Common.{◌≡◌, refl, arith, ℕ, zero, suc, ◌+◌, ◌<◌, ◌≤◌, ◌⊎◌, inl, inr, ⊎_elim, List, [], ◌∷◌, ◌++◌, length, get_or, All, Option, None, Some, sym, subst, ap, ◌∙◌, add-zero}
use Rattle.std.proofs.lemmas.List.{length_push}
use Rattle.std.proofs.lemmas.List.Concat.{flat_map-cons}
use Rattle.std.proofs.lemmas.List.Elements.{All-append, All-filter, All-map, All-nil, All-head, All-tail, All-same, All-weaker}
use Rattle.std.proofs.lemmas.List.Sorted.{All-permutation}
use Rattle.std.proofs.lemmas.Option.{none-some, same_Some, slice_get_cases}
use Rattle.std.specs.List.{filter}
use Rattle.std.specs.Prelude.{ℤ, slice_get}
use Rattle.plan_command.specs.Tables.{AreTables, IsContactWithin}
use Rattle.plan_command.proofs.NumberedLemmas.{AreNumbered}
use Rattle.plan_command.proofs.PartLemmas.{all_at}
use Rattle.plan_text.specs.Plan.{HasRows, IsPlan, IsRow, IsSatellite, IsWithin, PlanRecord, RowRecord, SatelliteRecord, StandingRecord, pairs_of, planned, refused}
use Rattle.plan_text.specs.TableLines.{pass_line, pass_lines, table_block, table_blocks}
use Rattle.plan_text.specs.Timetable.{contact_of, contacts_at, contacts_with, is_visible, list_of, timetable}
use Rattle.contact_alloc.specs.declared.bid.Contact.{Contact}
use Rattle.plan_text.proofs.TimetableLemmas.{timetables_are_in_order}
use Rattle.run_ends.proofs.PrintedLemmas.{AreLines}
use Rattle.sgp4_model.specs.declared.span.Span.{Span}

-- ---- lines
pub pass_lines_are : (start : ℤ) → AreLines (pass_line start) (pass_lines start)
pass_lines_are start = record { none = refl; more = λ contact rest. refl }

-- the table of the station behind so many others
abbrev pub table_behind : PlanRecord → ℕ → List ℕ → List ℕ
table_behind plan before name = table_block plan.window.start (before + 1) (timetable plan before)

pub table_blocks_are : (plan : PlanRecord) → AreNumbered (table_behind plan) (table_blocks plan)
table_blocks_are plan = record { none = λ n. refl; more = λ n name rest. refl }

-- the block of a table is that of its station
pub block_is : (plan : PlanRecord) (tables : List (List Contact)) (k : ℕ) (table : List Contact) (name : List ℕ) → AreTables plan tables → slice_get tables k ≡ Some table →
    table_block plan.window.start (k + 1) table ≡ table_behind plan (k + 0) name
block_is plan tables k table name are e =
    ap (λ t. table_block plan.window.start (k + 1) t) (are.each k table e) ∙ ap (λ n. table_behind plan n name) (sym (add-zero k))

-- there is an element at each place
pub there : {A : Type 0} (xs : List A) (k : ℕ) → k < length xs → (x : A) × (slice_get xs k ≡ Some x)
there {A = A} xs k low = by (slice_get_cases xs k).1
  where
    by : ((x : A) × (k < length xs) × (slice_get xs k ≡ Some x) × (get_or xs k x ≡ x)) ⊎ ((length xs ≤ k) × (slice_get xs k ≡ None)) → (x : A) × (slice_get xs k ≡ Some x)
    by (inl h) = (h.0, h.2)
    by (inr h) = absurd (omega (arith, h.0))

-- ---- tables one after another
-- these are the timetables of the first so many stations
pub record AreFirst (plan : PlanRecord) (tables : List (List Contact)) (k : ℕ) : Type 0 where
  pub count : length tables ≡ k
  pub each : (j : ℕ) (table : List Contact) → slice_get tables j ≡ Some table → table ≡ timetable plan j

pub no_tables : (plan : PlanRecord) → AreFirst plan [] 0
no_tables plan = record { count = refl; each = λ j table e. absurd (none-some table e) }

-- an element of a list with one more at its end
pub at_pushed : {A : Type 0} (xs : List A) (x : A) (k : ℕ) (y : A) → slice_get (xs ++ x ∷ []) k ≡ Some y → (slice_get xs k ≡ Some y) ⊎ ((k ≡ length xs) × (x ≡ y))
at_pushed [] x zero y e = inr (refl, same_Some x y e)
at_pushed [] x (suc k) y e = absurd (none-some y e)
at_pushed (z ∷ zs) x zero y e = inl e
at_pushed (z ∷ zs) x (suc k) y e = ⊎_elim (λ h. inl h) (λ h. inr (omega (arith, h.0), h.1)) (at_pushed zs x k y e)

pub one_table_more : (plan : PlanRecord) (tables next : List (List Contact)) (k : ℕ) (table : List Contact) → AreFirst plan tables k → table ≡ timetable plan k → next ≡ tables ++ table ∷ [] → AreFirst plan next (k + 1)
one_table_more plan tables next k table h is e = record {
  count = rw e (omega (arith, h.count, length_push tables table));
  each = λ j other f. at (at_pushed tables table j other (subst (λ t. slice_get t j ≡ Some other) e f));
}
  where
    at : {j : ℕ} {other : List Contact} → (slice_get tables j ≡ Some other) ⊎ ((j ≡ length tables) × (table ≡ other)) → other ≡ timetable plan j
    at {j} {other} (inl f) = h.each j other f
    at {j} {other} (inr f) = sym f.1 ∙ is ∙ ap (timetable plan) (sym (f.0 ∙ h.count))

-- ---- contacts lie in the window
-- the spans of a row, if there is one
row_within : (ticks : ℕ) (rows : List RowRecord) (k : ℕ) (o : Option RowRecord) → slice_get rows k ≡ o → All (IsRow ticks) rows → All (IsWithin ticks) (list_of o)
row_within ticks rows k None e h = All-nil (IsWithin ticks)
row_within ticks rows k (Some row) e h = (all_at (IsRow ticks) rows k row e h).spans

-- the rows at the stations
rows_within : (ticks stations : ℕ) (standing : StandingRecord) → HasRows ticks stations standing → All (IsRow ticks) (pairs_of standing)
rows_within ticks stations (refused fault) h = All-nil (IsRow ticks)
rows_within ticks stations (planned lit pairs) h = h.1

-- the contacts of a satellite
contacts_of_within : (ticks stations station : ℕ) (satellite : SatelliteRecord) → HasRows ticks stations satellite.standing → All (IsContactWithin ticks) (contacts_with station satellite)
contacts_of_within ticks stations station satellite h =
    let rows = pairs_of satellite.standing in
    let list = list_of (slice_get rows station) in
    let within : All (IsWithin ticks) list = row_within ticks rows station (slice_get rows station) refl (rows_within ticks stations satellite.standing h) in
    let seen = filter (λ (span : Span). is_visible span.mark) list in
    let some : All (IsWithin ticks) seen = All-filter (λ (span : Span). is_visible span.mark) (IsWithin ticks) list within in
    All-map (IsContactWithin ticks) (contact_of satellite.number) seen
    (All-weaker (IsWithin ticks) (λ span. IsContactWithin ticks (contact_of satellite.number span)) (λ span w. record { from = w.from; to = w.to }) seen some)

-- those of all
all_within : (ticks stations station : ℕ) (satellites : List SatelliteRecord) → All (IsSatellite ticks stations) satellites → All (IsContactWithin ticks) (contacts_at station satellites)
all_within ticks stations station [] h = All-nil (IsContactWithin ticks)
all_within ticks stations station (s ∷ ss) h =
    All-same (IsContactWithin ticks) _ _ (flat_map-cons (contacts_with station) s ss)
    (All-append (IsContactWithin ticks) (contacts_with station s) (contacts_at station ss)
    (contacts_of_within ticks stations station s (All-head (IsSatellite ticks stations) s ss h).rows)
    (all_within ticks stations station ss (All-tail (IsSatellite ticks stations) s ss h)))

pub timetable_within : (plan : PlanRecord) (station : ℕ) → IsPlan plan → All (IsContactWithin plan.window.ticks) (timetable plan station)
timetable_within plan station is =
    All-permutation (IsContactWithin plan.window.ticks) (contacts_at station plan.satellites) (timetable plan station)
    (timetables_are_in_order plan station).0.moves (all_within plan.window.ticks (length plan.stations) station plan.satellites is.satellites)

pub table_within : (plan : PlanRecord) (tables : List (List Contact)) (k : ℕ) (table : List Contact) → IsPlan plan → AreTables plan tables → slice_get tables k ≡ Some table → All (IsContactWithin plan.window.ticks) table
table_within plan tables k table is are e =
    All-same (IsContactWithin plan.window.ticks) table (timetable plan k) (are.each k table e) (timetable_within plan k is)
