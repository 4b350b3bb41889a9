-- The lines of timetables.
use Rattle.std.specs.Prelude.{ℕ, ◌+◌, ℤ, List, [], ◌∷◌, ◌++◌, length, codes, decimal}
use Rattle.pass_text.specs.DayLayout.{tick_text}
use Rattle.contact_alloc.specs.declared.bid.Contact.{Contact}
use Rattle.plan_text.specs.Plan.{PlanRecord}
use Rattle.plan_text.specs.Timetable.{timetable}

-- `TABLE <index> <count>`
unfoldable pub table_line : ℕ → ℕ → List ℕ
table_line index count = codes "TABLE " ++ decimal index ++ codes " " ++ decimal count ++ codes "\n"

-- `PASS <from> <to> <number>`
unfoldable pub pass_line : ℤ → Contact → List ℕ
pass_line start contact =
    codes "PASS " ++ tick_text start contact.from ++ codes " " ++ tick_text start contact.to
    ++ codes " " ++ decimal contact.number ++ codes "\n"

-- a line for each contact
abbrev pub pass_lines : ℤ → List Contact → List ℕ
pass_lines start [] = []
pass_lines start (first ∷ rest) = pass_line start first ++ pass_lines start rest

-- the table of a station with this index
abbrev pub table_block : ℤ → ℕ → List Contact → List ℕ
table_block start index contacts = table_line index (length contacts) ++ pass_lines start contacts

-- the tables of these stations, of which so many stand before the first
abbrev pub table_blocks : PlanRecord → ℕ → List (List ℕ) → List ℕ
table_blocks plan before [] = []
table_blocks plan before (name ∷ rest) =
    table_block plan.window.start (before + 1) (timetable plan before) ++ table_blocks plan (before + 1) rest
