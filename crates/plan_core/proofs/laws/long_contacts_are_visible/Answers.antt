use Rattle.plan_core.proofs.NoneLostLemmas.{long_contacts_are_visible}
use Rattle.plan_core.proofs.laws.long_contacts_are_visible.Goals as goal

pub returns : goal.returns
returns c = long_contacts_are_visible
