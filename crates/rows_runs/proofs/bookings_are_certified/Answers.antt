use Rattle.rows_runs.proofs.ProductLaws.{bookings_are_certified}
use Rattle.rows_runs.proofs.bookings_are_certified.Goals as goal

pub returns : goal.returns
returns c = bookings_are_certified
