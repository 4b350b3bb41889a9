use Rattle.plan_text.proofs.TimetableLemmas.{timetables_are_in_order}
use Rattle.plan_text.proofs.laws.timetables_are_in_order.Goals as goal

pub returns : goal.returns
returns c = timetables_are_in_order
