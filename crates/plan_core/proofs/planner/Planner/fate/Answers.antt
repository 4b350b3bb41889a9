use Rattle.std.proofs.Common.{ap}
use Rattle.plan_core.proofs.FateLemmas.{exact_at, fate_at}
use Rattle.plan_core.specs.declared.sat_row.SatRow.{SatRow}
use Rattle.plan_core.proofs.planner.Planner.fate.Goals as goal

pub returns-clause-fate : goal.returns-clause-fate
returns-clause-fate c =
    rw (← c.self.view_is) (λ entry e. fate_at c.self.inside.setting c.self.inside.satellites.items c.args.sat c.index.result.now entry _ c.self.invariant.ready c.index.ensures e (ap (λ (r : SatRow). r.fate) c.row.ensures))

pub returns-clause-exact : goal.returns-clause-exact
returns-clause-exact c =
    rw (← c.self.view_is) (λ entry e. exact_at c.self.inside.setting.window entry.elements _ (fate_at c.self.inside.setting c.self.inside.satellites.items c.args.sat c.index.result.now entry _ c.self.invariant.ready c.index.ensures e (ap (λ (r : SatRow). r.fate) c.row.ensures)))
