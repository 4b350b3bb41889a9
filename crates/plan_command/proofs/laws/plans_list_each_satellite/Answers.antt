use Rattle.plan_command.proofs.LawLemmas.{plans_list_each_satellite}
use Rattle.plan_command.proofs.laws.plans_list_each_satellite.Goals as goal

pub returns : goal.returns
returns c = plans_list_each_satellite
