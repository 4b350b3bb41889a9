use Rattle.std.proofs.Common.{arith, subst}
use Rattle.plan_core.specs.Certificate.{light_of}
use Rattle.plan_core.proofs.ReaderLemmas.{entry_set}
use Rattle.span_bisect.specs.Answer.{IsAnswer}
use Rattle.plan_core.proofs.planner.Planner.lit.Goals as goal

pub invariant_of-self : goal.invariant_of-self
invariant_of-self c = record {
  ready = c.self.invariant.ready;
  few = c.self.invariant.few;
  slots = omega (arith, c.track_light-cover.ensures.kept.slots, c.self.invariant.slots);
}

pub returns-clause-certified : goal.returns-clause-certified
returns-clause-certified c =
    rw (← c.self.view_is) (λ entry e. subst (λ set. IsAnswer (light_of c.self.inside.setting.window set) c.self.inside.setting.window.resolution c.self.inside.pool c.track_light-cover.new.pool c.track_light-cover.result.answer) (entry_set c.self.inside.satellites.items c.args.sat c.index-satellite.result.now entry c.index-satellite.ensures e) c.track_light-cover.ensures.row.certified)
