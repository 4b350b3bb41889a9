use Rattle.plan_command.proofs.LostLemmas.{planned_for}
use Rattle.plan_command.proofs.run.planned.Goals as goal

pub returns : goal.returns
returns c = planned_for c.args.satellites c.args.places c.args.window c.certified.result c.len-stations.ensures.stations c.certified.ensures
