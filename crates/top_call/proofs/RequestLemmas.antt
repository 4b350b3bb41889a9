-- The commands of the requests: one lemma a command.
use Rattle.std.proofs.Common.{◌≡◌, ◌∙◌, ℕ, List, ap, subst, refl, inl}
use Rattle.std.specs.Prelude.{ℤ}
use Rattle.catalogue.specs.declared.entry.Entry.{Entry}
use Rattle.book_command.specs.BookedAt.{IsBookedAt, book_of}
use Rattle.book_command.specs.State.{BookState}
use Rattle.day_command.specs.Day.{DayRecord, IsDayAt, day, day_text}
use Rattle.decimals.specs.Decimal.{DecimalRecord}
use Rattle.elements.specs.Window.{WindowRecord}
use Rattle.grid_command.specs.Counted.{CountedRecord, IsCountedAt, grid, grid_text}
use Rattle.locate_command.specs.Located.{IsLocatedAt, locate}
use Rattle.outside_io.specs.declared.shelf.Shelf.{Ghosts as Shelf}
use Rattle.outside_io.specs.declared.sink.Sink.{Ghosts as Sink}
use Rattle.pass_words.specs.Placed.{text_at}
use Rattle.pass_words.specs.declared.part.Part.{Part}
use Rattle.pass_words.specs.declared.request.Request.{Request}
use Rattle.pass_words.specs.declared.request.Request.TheVariants as requests
use Rattle.plan_command.specs.Planned.{IsPlannedAt, plan_of}
use Rattle.plan_core.specs.State.{PlanState, plan_record}
use Rattle.run_ends.proofs.CommandLemmas.{nothing_loaded, run_behind}
use Rattle.run_ends.proofs.MappedLemmas.{mapped_run}
use Rattle.run_ends.specs.Counted.{AreAllowed}
use Rattle.run_ends.specs.Endings.{IsForMemory, WithProduct, ending_of}
use Rattle.run_ends.specs.Files.{catalogue_alone, catalogue_and_stations}
use Rattle.run_ends.specs.Printed.{IsWritten}
use Rattle.run_ends.specs.Runs.{IsRunOf}
use Rattle.run_ends.specs.declared.ending.Ending.{Ending}
use Rattle.sat_locate.specs.declared.found.LocAnswer.{LocAnswer}
use Rattle.show_command.specs.Shown.{IsShownAt, show}
use Rattle.top_call.specs.Request.{command_of, files_of}
use Rattle.top_call.specs.declared.outcome.Product.{Product}
use Rattle.top_call.specs.declared.outcome.Product.TheVariants.{Day, Plan, Shown, Located, Counted, Booked}

-- the shelf allows the catalogue of a plan
pub plan_allowed : {A : Type 0} (S : Shelf A) (shelf : A) (words : List (List ℕ)) (request : Request) (catalogue stations : Part) (window : WindowRecord) (name : List ℕ) →
    request ≡ requests.Plan catalogue stations window → name ≡ text_at words catalogue → AreAllowed S shelf (files_of words request) → S.allows shelf name
plan_allowed S shelf words request catalogue stations window name is at allowed =
    let here : AreAllowed S shelf (files_of words (requests.Plan catalogue stations window)) = subst (λ r. AreAllowed S shelf (files_of words r)) is allowed in
    here name (inl (window.start, (at, refl)))

-- and that of a booking
pub book_allowed : {A : Type 0} (S : Shelf A) (shelf : A) (words : List (List ℕ)) (request : Request) (catalogue stations : Part) (window : WindowRecord) (antennas : ℕ) (name : List ℕ) →
    request ≡ requests.Book catalogue stations window antennas → name ≡ text_at words catalogue → AreAllowed S shelf (files_of words request) → S.allows shelf name
book_allowed S shelf words request catalogue stations window antennas name is at allowed =
    let here : AreAllowed S shelf (files_of words (requests.Book catalogue stations window antennas)) = subst (λ r. AreAllowed S shelf (files_of words r)) is allowed in
    here name (inl (window.start, (at, refl)))

module _ {A B : Type 0} (S : Shelf A) (K : Sink B) (words : List (List ℕ)) (before after : A) (old new : B) where
  pub day_run : (lat lon : DecimalRecord) (window : WindowRecord) (e : Ending DayRecord) (r : Ending Product) → r ≡ ending_of Day e →
      WithProduct (IsDayAt lat lon window) e → IsWritten K day_text e old new → IsForMemory e →
      IsRunOf S K (command_of words (requests.Day lat lon window)) r before before old new
  day_run lat lon window e r is product written want =
      rw is
      (mapped_run Day (day lat lon window) (command_of words (requests.Day lat lon window)) e refl (λ p h. h) (λ p. refl)
      (run_behind (day lat lon window) e (nothing_loaded S before) product written want))

  pub show_run : (catalogue : Part) (start : ℤ) (name : List ℕ) (e : Ending (List Entry)) (r : Ending Product) → r ≡ ending_of Shown e → name ≡ text_at words catalogue →
      IsRunOf S K (show name start) e before after old new → IsRunOf S K (command_of words (requests.Show catalogue start)) r before after old new
  show_run catalogue start name e r is at h =
      rw is
      (mapped_run Shown (show name start) (command_of words (requests.Show catalogue start)) e (ap (λ n. catalogue_alone n start) at)
      (λ p k. subst (λ n. IsShownAt (S.held before n) start p) at k) (λ p. refl) h)

  pub locate_run : (catalogue : Part) (number : ℕ) (instant : ℤ) (name : List ℕ) (e : Ending LocAnswer) (r : Ending Product) → r ≡ ending_of Located e → name ≡ text_at words catalogue →
      IsRunOf S K (locate name number instant) e before after old new → IsRunOf S K (command_of words (requests.Locate catalogue number instant)) r before after old new
  locate_run catalogue number instant name e r is at h =
      rw is
      (mapped_run Located (locate name number instant) (command_of words (requests.Locate catalogue number instant)) e (ap (λ n. catalogue_alone n instant) at)
      (λ p k. subst (λ n. IsLocatedAt (S.held before n) number instant p) at k) (λ p. refl) h)

  pub plan_run : (catalogue stations : Part) (window : WindowRecord) (name other : List ℕ) (e : Ending PlanState) (r : Ending Product) → r ≡ ending_of Plan e → name ≡ text_at words catalogue → other ≡ text_at words stations →
      IsRunOf S K (plan_of name other window) e before after old new → IsRunOf S K (command_of words (requests.Plan catalogue stations window)) r before after old new
  plan_run catalogue stations window name other e r is at beside h =
      rw is
      (mapped_run Plan (plan_of name other window) (command_of words (requests.Plan catalogue stations window)) e
      (ap (λ n. catalogue_and_stations n window.start other) at ∙ ap (λ n. catalogue_and_stations (text_at words catalogue) window.start n) beside)
      (λ p k. subst (λ n. IsPlannedAt (S.held before n) (S.held before (text_at words stations)) window (plan_record p)) at
      (subst (λ n. IsPlannedAt (S.held before name) (S.held before n) window (plan_record p)) beside k))
      (λ p. refl) h)

  pub grid_run : (count : ℕ) (e : Ending CountedRecord) (r : Ending Product) → r ≡ ending_of Counted e →
      WithProduct (IsCountedAt count) e → IsWritten K grid_text e old new → IsForMemory e →
      IsRunOf S K (command_of words (requests.Grid count)) r before before old new
  grid_run count e r is product written want =
      rw is
      (mapped_run Counted (grid count) (command_of words (requests.Grid count)) e refl (λ p h. h) (λ p. refl)
      (run_behind (grid count) e (nothing_loaded S before) product written want))

  pub book_run : (catalogue stations : Part) (window : WindowRecord) (antennas : ℕ) (name other : List ℕ) (e : Ending BookState) (r : Ending Product) → r ≡ ending_of Booked e → name ≡ text_at words catalogue → other ≡ text_at words stations →
      IsRunOf S K (book_of name other window antennas) e before after old new → IsRunOf S K (command_of words (requests.Book catalogue stations window antennas)) r before after old new
  book_run catalogue stations window antennas name other e r is at beside h =
      rw is
      (mapped_run Booked (book_of name other window antennas) (command_of words (requests.Book catalogue stations window antennas)) e
      (ap (λ n. catalogue_and_stations n window.start other) at ∙ ap (λ n. catalogue_and_stations (text_at words catalogue) window.start n) beside)
      (λ p k. subst (λ n. IsBookedAt (S.held before n) (S.held before (text_at words stations)) window antennas p) at
      (subst (λ n. IsBookedAt (S.held before name) (S.held before n) window antennas p) beside k))
      (λ p. refl) h)
