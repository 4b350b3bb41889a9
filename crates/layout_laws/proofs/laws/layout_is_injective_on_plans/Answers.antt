use Rattle.layout_laws.proofs.PlanLemmas.{layouts_tell_plans}
use Rattle.layout_laws.proofs.laws.layout_is_injective_on_plans.Goals as goal

pub returns : goal.returns
returns c = layouts_tell_plans
