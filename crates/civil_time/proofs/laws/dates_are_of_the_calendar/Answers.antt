use Rattle.civil_time.proofs.DateLemmas.{dates_are_of_the_calendar}
use Rattle.civil_time.proofs.laws.dates_are_of_the_calendar.Goals as goal

pub returns : goal.returns
returns c = dates_are_of_the_calendar
