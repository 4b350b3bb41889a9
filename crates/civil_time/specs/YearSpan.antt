-- The instants are those of whole years of the calendar.
use Rattle.std.specs.Prelude.{◌≡◌, ◌+◌, pos, ◌+ℤ◌}
use Rattle.civil_time.specs.Scale.{first_year, last_year, first_instant, last_instant, start_of_year}

-- the first instant begins the first year, and the year after the last begins where the instants end
abbrev pub InstantsAreOfTheYears : Type 0
InstantsAreOfTheYears =
    (start_of_year (pos first_year) ≡ first_instant) × (start_of_year (pos (last_year + 1)) ≡ last_instant +ℤ pos 1)
