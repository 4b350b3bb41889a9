-- The command `book`, and what it certifies.
use Rattle.std.specs.Prelude.{ℕ, List, Option}
use Rattle.book_command.specs.BookLayout.{book_text}
use Rattle.book_command.specs.Bookings.{AreBooked}
use Rattle.book_command.specs.State.{BookState}
use Rattle.elements.specs.Window.{WindowRecord}
use Rattle.plan_command.specs.Planned.{IsPlannedAt}
use Rattle.plan_core.specs.State.{plan_record}
use Rattle.run_ends.specs.Files.{catalogue_and_stations}
use Rattle.run_ends.specs.Runs.{Command}

-- The plan is certified, as that of the command `plan`. Each station in order, none left out, has its booking with so
-- many antennas: that its contacts are too many, exactly where they are more than 65,536; else an allocation of the contacts
-- of its timetable, each worth its length in ticks, with prices that certify it.
pub record IsBookedAt (catalogue stations : Option (List ℕ)) (window : WindowRecord) (antennas : ℕ) (book : BookState) : Type 0 where
  pub planned : IsPlannedAt catalogue stations window (plan_record book.plan)
  pub booked : AreBooked (plan_record book.plan) antennas book.bookings

-- the command: it reads a catalogue and stations, plans the satellites of the one over the others in a window, books the
-- contacts of each station with so many antennas, and prints the bookings
abbrev pub book_of : List ℕ → List ℕ → WindowRecord → ℕ → Command BookState
book_of catalogue stations window antennas = record {
  files = catalogue_and_stations catalogue window.start stations;
  is_product = λ held book. IsBookedAt (held catalogue) (held stations) window antennas book;
  layout = book_text;
}
