use Rattle.std.proofs.Common.{arith, ◌≡◌, pos, ◌∙◌, to_z, w16}
use Rattle.jiff_core.proofs.SignedLemmas.{signed_arith, signed_casts}
use Rattle.jiff_core.specs.Calendar.{days_from_civil}
use Rattle.civil_time.proofs.YearLemmas.{civil_day}
use Rattle.civil_time.proofs.calendar.day_number.Goals as goal

pub returns-clause-in_years : goal.returns-clause-in_years
returns-clause-in_years c =
    let year : c.constrain.result.year ≡ pos c.args.year = omega (arith, signed_casts, c.constrain.ensures.year, c.requires.year) in
    let same : to_z w16 c.args.year ≡ pos c.args.year = omega (arith, signed_casts, c.requires.year) in
    let day : c.constrain.result.day ≡ c.args.day = omega (arith, rw same at c.constrain.ensures.day, c.requires.date) in
    let number : c.to_unix_epoch_day.result ≡ days_from_civil (pos c.args.year) c.args.month c.args.day = c.to_unix_epoch_day.ensures.value ∙ rw (c.constrain.ensures.month, day, year) in
    omega (arith, signed_arith, number, civil_day _ _ _ c.requires.year c.requires.date)
