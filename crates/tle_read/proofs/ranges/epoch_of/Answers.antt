use Rattle.std.proofs.Common.{◌+◌, ◌*◌, ◌/◌, ◌<◌, ◌≤◌, arith, pos}
use Rattle.std.proofs.lemmas.Bool.{and_parts, leb-true, ltb-true}
use Rattle.jiff_core.specs.Calendar.{days_in_year}
use Rattle.jiff_core.proofs.CalendarLemmas.{days_in_year_bounds}
use Rattle.civil_time.specs.Scale.{day_nanos}
use Rattle.tle_read.proofs.EpochLemmas.{day_from, day_below}
use Rattle.tle_read.proofs.ranges.epoch_of.Goals as goal
use Rattle.tle_read.proofs.ranges.epoch_of.Goals.{After-unit}

since : (c : After-unit) → day_nanos ≤ c.digits.result * (day_nanos / c.unit.result)
since c =
    let day = c.args.epoch.day in
    rw (c.digits.ensures.value, c.unit.ensures.value) (day_from day.digits day.places c.digits.ensures.short.places (leb-true _ _ (and_parts _ _ c.requires.day).0))

until : (c : After-unit) → c.digits.result * (day_nanos / c.unit.result) < (days_in_year (pos c.args.epoch.year) + 1) * day_nanos
until c =
    let day = c.args.epoch.day in
    rw (c.digits.ensures.value, c.unit.ensures.value) (day_below day.digits day.places (days_in_year (pos c.args.epoch.year) + 1) c.digits.ensures.short.places (ltb-true _ _ (and_parts _ _ c.requires.day).1))

pub overflow_mul-nanos : goal.overflow_mul-nanos
overflow_mul-nanos c = omega (arith, until c, days_in_year_bounds (pos c.args.epoch.year))

pub overflow_sub-nanos : goal.overflow_sub-nanos
overflow_sub-nanos c = since c

pub of_year_day-requires-clause-within : goal.of_year_day-requires-clause-within
of_year_day-requires-clause-within c = omega (arith, since c, until c)
