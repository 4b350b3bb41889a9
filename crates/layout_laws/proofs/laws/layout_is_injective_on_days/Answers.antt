use Rattle.layout_laws.proofs.DayLemmas.{layouts_tell_days}
use Rattle.layout_laws.proofs.laws.layout_is_injective_on_days.Goals as goal

pub returns : goal.returns
returns c = layouts_tell_days
