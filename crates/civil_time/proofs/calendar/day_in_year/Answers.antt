use Rattle.std.proofs.Common.{arith}
use Rattle.jiff_core.proofs.SignedLemmas.{signed_casts}
use Rattle.civil_time.proofs.YearLemmas.{place_day}
use Rattle.civil_time.proofs.calendar.day_in_year.Goals as goal

pub returns-clause-in_years : goal.returns-clause-in_years
returns-clause-in_years c =
    omega (arith, signed_casts, c.day_number.ensures, c.from.ensures, place_day _ _ c.requires.year c.requires.day.0 c.requires.day.1)
