-- The products and outcomes of a run: what is printed of a product, and what each outcome says of it.
use Rattle.std.specs.Prelude.{◌≡◌, ◌⊎◌, ℕ, List, Option, Bool, true, ⊤, if◌then◌else◌}
use Rattle.book_command.specs.BookLayout.{book_text}
use Rattle.book_command.specs.State as books
use Rattle.day_command.specs.Day.{day_text}
use Rattle.day_command.specs.Whole.{has_spans}
use Rattle.grid_command.specs.Counted.{grid_text}
use Rattle.grid_command.specs.Counted as grids
use Rattle.outside_io.specs.declared.shelf.Shelf.{Ghosts as Shelf}
use Rattle.outside_io.specs.declared.sink.Sink.{Ghosts as Sink}
use Rattle.pass_text.specs.CatalogueFaults.{catalogue_fault_line}
use Rattle.pass_text.specs.LocateLayout.{locate_layout}
use Rattle.pass_text.specs.Refusals.{memory_line, read_line, too_long_line, usage_line, window_fault_line}
use Rattle.pass_text.specs.ShowLayout.{show_layout}
use Rattle.pass_text.specs.StationFaults.{station_fault_line}
use Rattle.plan_command.specs.Parts.{plan_text}
use Rattle.plan_core.specs.State.{plan_record}
use Rattle.plan_core.specs.Whole as plans
use Rattle.run_ends.specs.Causes.{Came, IsBadCatalogue, IsBadStations, IsTooLong}
use Rattle.run_ends.specs.Counted.{AreKept, FaultsRose, OversRose}
use Rattle.run_ends.specs.Files.{AreRead, Files}
use Rattle.run_ends.specs.Printed.{IsCutOff, IsRefused, IsWhole}
use Rattle.run_ends.specs.declared.ending.Ending.{Ending}
use Rattle.run_ends.specs.declared.ending.Ending.TheVariants as endings
use Rattle.run_ends.specs.declared.refusal.Refusal.TheVariants as refusals
use Rattle.sat_locate.specs.Found.{found_record, is_placed, locate_record}
use Rattle.top_call.specs.declared.outcome.Outcome.{Outcome}
use Rattle.top_call.specs.declared.outcome.Outcome.TheVariants.{Done, Usage, BadWindow, BadCatalogue, BadStations, ReadFault, TooLong, WriteFault, OutOfMemory}
use Rattle.top_call.specs.declared.outcome.Product.{Product}
use Rattle.top_call.specs.declared.outcome.Product.TheVariants.{Day, Plan, Shown, Located, Counted, Booked}

-- what is printed of a product
abbrev pub layout : Product → List ℕ
layout (Day day) = day_text day
layout (Plan plan) = plan_text plan
layout (Shown sets) = show_layout sets
layout (Located answer) = locate_layout (locate_record answer)
layout (Counted counted) = grid_text counted
layout (Booked book) = book_text book

-- nothing is left out of the product
abbrev pub is_whole : Product → Bool
is_whole (Day day) = has_spans day.answer
is_whole (Plan plan) = plans.is_whole (plan_record plan)
is_whole (Shown sets) = true
is_whole (Located answer) = is_placed (found_record answer.found)
is_whole (Counted counted) = grids.is_whole counted.summary
is_whole (Booked book) = books.is_whole book

-- the exit status
abbrev pub status_of : Outcome → ℕ
status_of (Done product) = if is_whole product then 0 else 1
status_of (Usage fault) = 2
status_of (BadWindow fault) = 3
status_of (BadCatalogue fault) = 4
status_of (BadStations fault) = 5
status_of ReadFault = 6
status_of TooLong = 7
status_of (WriteFault product) = 8
status_of OutOfMemory = 9

-- the outcome of words that make a request
abbrev pub outcome_of : Ending Product → Outcome
outcome_of (endings.Done product) = Done product
outcome_of (endings.WriteFault product) = WriteFault product
outcome_of (endings.Refused (refusals.BadCatalogue fault)) = BadCatalogue fault
outcome_of (endings.Refused (refusals.BadStations fault)) = BadStations fault
outcome_of (endings.Refused refusals.Unread) = ReadFault
outcome_of (endings.Refused refusals.TooLong) = TooLong
outcome_of (endings.Refused refusals.OutOfMemory) = OutOfMemory

-- what was written: the whole layout of the product; or a front of it, where a write failed; or the one line of the refusal
abbrev pub IsWritten : {B : Type 0} → Sink B → Outcome → B → B → Type 0
IsWritten K (Done product) old new = IsWhole K old new (layout product)
IsWritten K (Usage fault) old new = IsRefused K old new (usage_line fault)
IsWritten K (BadWindow fault) old new = IsRefused K old new (window_fault_line fault)
IsWritten K (BadCatalogue fault) old new = IsRefused K old new (catalogue_fault_line fault)
IsWritten K (BadStations fault) old new = IsRefused K old new (station_fault_line fault)
IsWritten K ReadFault old new = IsRefused K old new read_line
IsWritten K TooLong old new = IsRefused K old new too_long_line
IsWritten K (WriteFault product) old new = IsCutOff K old new (layout product)
IsWritten K OutOfMemory old new = IsRefused K old new memory_line

-- where the outcome comes from, by the held bytes of the files that the words name, where these are told
abbrev pub IsCaused : (List ℕ → Option (List ℕ)) → Files → Outcome → Type 0
IsCaused held files (Done product) = AreRead held files
IsCaused held files (Usage fault) = ⊤
IsCaused held files (BadWindow fault) = ⊤
IsCaused held files (BadCatalogue fault) = IsBadCatalogue held files fault
IsCaused held files (BadStations fault) = IsBadStations held files fault
IsCaused held files ReadFault = (name : List ℕ) × Came held files name
IsCaused held files TooLong = IsTooLong held files
IsCaused held files (WriteFault product) = AreRead held files
IsCaused held files OutOfMemory = ⊤

-- the shelf's counts: that of faults alone rose where a file was not read, and that of long files alone where one was too
-- long; else both are as they were
abbrev pub IsCounted : {A : Type 0} → Shelf A → Outcome → A → A → Type 0
IsCounted S (Done product) old new = AreKept S old new
IsCounted S (Usage fault) old new = AreKept S old new
IsCounted S (BadWindow fault) old new = AreKept S old new
IsCounted S (BadCatalogue fault) old new = AreKept S old new
IsCounted S (BadStations fault) old new = AreKept S old new
IsCounted S ReadFault old new = FaultsRose S old new
IsCounted S TooLong old new = OversRose S old new
IsCounted S (WriteFault product) old new = AreKept S old new
IsCounted S OutOfMemory old new = AreKept S old new

-- the run was done, or wanted memory
abbrev pub IsDoneOrWant : Outcome → Type 0
IsDoneOrWant outcome = ((product : Product) × (outcome ≡ Done product)) ⊎ (outcome ≡ OutOfMemory)

-- the run came to this outcome, or wanted memory
abbrev pub IsThisOrWant : Outcome → Outcome → Type 0
IsThisOrWant this outcome = (outcome ≡ this) ⊎ (outcome ≡ OutOfMemory)
