use Rattle.book_command.proofs.BestLemmas.{bookings_are_best}
use Rattle.book_command.proofs.laws.bookings_are_best.Goals as goal

pub returns : goal.returns
returns c = bookings_are_best c.certified_value_is_greatest.ensures
