use Rattle.plan_core.specs.State.{plan_record}
use Rattle.grid_command.proofs.FitLemmas.{plan_fits}
use Rattle.grid_command.proofs.counts.summary_of.Goals as goal

pub tally_of_plan-tally-requires : goal.tally_of_plan-tally-requires
tally_of_plan-tally-requires c = plan_fits (plan_record c.args.plan.now) c.sats-sats.ensures.plan c.sats-sats.ensures.few
