-- What the command `book` prints.
use Rattle.std.specs.Prelude.{ℕ, ◌+◌, ℤ, List, [], ◌∷◌, ◌++◌, length, codes}
use Rattle.book_command.specs.Record.{BookedRecord}
use Rattle.book_command.specs.State.{BookState}
use Rattle.book_command.specs.declared.station.StationBooking.{StationBooking}
use Rattle.book_command.specs.declared.station.StationBooking.TheVariants.{TooMany, Booked}
use Rattle.contact_alloc.specs.Stretches.{ends}
use Rattle.plan_command.specs.Head.{head_lines}
use Rattle.plan_core.specs.State.{plan_record}
use Rattle.plan_text.specs.BookLines.{book_line, price_lines, too_many_line, use_lines}
use Rattle.plan_text.specs.Plan.{PlanRecord}

-- the station with this index, where its contacts are booked: those that have an antenna, and the stretches that have a price
abbrev pub booked_block : ℤ → ℕ → BookedRecord → List ℕ
booked_block start index booked =
    book_line index (length booked.bids) booked.booking.value
    ++ (use_lines start booked.bids booked.booking.used ++ price_lines start (ends booked.bids) booked.booking.prices)

-- the station with this index
abbrev pub book_block : ℤ → ℕ → StationBooking → List ℕ
book_block start index (TooMany contacts) = too_many_line index contacts
book_block start index (Booked booked) = booked_block start index booked

-- the stations from this index on
abbrev pub book_blocks : ℤ → ℕ → List StationBooking → List ℕ
book_blocks start index [] = []
book_blocks start index (booking ∷ rest) = book_block start index booking ++ book_blocks start (index + 1) rest

-- the whole text: the heading, the head of the plan, the stations, the end
abbrev pub book_layout : PlanRecord → List StationBooking → List ℕ
book_layout plan bookings =
    codes "PASSBOOK 1\n" ++ (head_lines plan ++ (book_blocks plan.window.start 1 bookings ++ codes "END\n"))

abbrev pub book_text : BookState → List ℕ
book_text book = book_layout (plan_record book.plan) book.bookings
