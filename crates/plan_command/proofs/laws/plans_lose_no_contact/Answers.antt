use Rattle.plan_command.proofs.LostLemmas.{plans_lose_no_contact}
use Rattle.plan_command.proofs.laws.plans_lose_no_contact.Goals as goal

pub returns : goal.returns
returns c = plans_lose_no_contact
