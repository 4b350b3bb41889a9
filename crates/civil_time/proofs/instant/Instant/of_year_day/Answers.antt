use Rattle.std.proofs.Common.{arith, ◌<◌, ◌≡◌, ◌+ℤ◌, pos, w64, to_z, of_z}
use Rattle.jiff_core.proofs.SignedLemmas.{signed_casts, signed_arith}
use Rattle.jiff_core.proofs.CalendarLemmas.{days_in_year_bounds}
use Rattle.civil_time.specs.Scale.{start_of_year}
use Rattle.civil_time.proofs.YearLemmas.{year_instants, year_day}
use Rattle.civil_time.proofs.instant.Instant.of_year_day.Goals as goal
use Rattle.civil_time.proofs.instant.Instant.of_year_day.Goals.{After-start_of_day}

pub start_of_day-requires : goal.start_of_day-requires
start_of_day-requires c = omega (arith, signed_arith, c.day_number.ensures, year_day _ c.requires.year)

sum : (c : After-start_of_day) → to_z w64 (of_z w64 c.start_of_day.result) +ℤ to_z w64 c.args.nanos_of_year ≡ start_of_year (pos c.args.year) +ℤ pos c.args.nanos_of_year
sum c =
    let small : c.args.nanos_of_year < 9223372036854775808 = omega (arith, days_in_year_bounds (pos c.args.year), c.requires.within) in
    omega (arith, signed_casts, c.start_of_day.ensures.value, c.day_number.ensures, year_day _ c.requires.year, c.start_of_day.ensures.in_years)

pub overflow_add-result : goal.overflow_add-result
overflow_add-result c = rw (sum c) (omega (arith, signed_arith, year_instants _ _ c.requires.year c.requires.within))

pub invariant_of-result : goal.invariant_of-result
invariant_of-result c = rw (sum c) (omega (arith, signed_arith, year_instants _ _ c.requires.year c.requires.within))

pub returns : goal.returns
returns c = rw (sum c) (omega (arith, signed_arith, year_instants _ _ c.requires.year c.requires.within))
