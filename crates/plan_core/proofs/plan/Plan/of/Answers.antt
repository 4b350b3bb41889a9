use Rattle.std.proofs.Common.{arith}
use Rattle.plan_core.proofs.PlanLemmas.{state_is}
use Rattle.plan_core.proofs.plan.Plan.of.Goals as goal

pub invariant_of-result : goal.invariant_of-result
invariant_of-result c =
    state_is c.args.setting c.args.satellites.items c.args.pool c.args.cells c.requires.made c.requires.ready c.requires.few c.requires.slots (omega (arith, c.used-used.ensures.used, c.used-used.ensures.limit)) c.window-window.ensures.window c.stations-stations.ensures.stations
