use Rattle.std.proofs.Common.{arith, subst}
use Rattle.plan_core.specs.Certificate.{sight_of}
use Rattle.plan_core.proofs.NoneLostLemmas.{long_contacts_are_visible, station_in_range}
use Rattle.plan_core.proofs.ReaderLemmas.{entry_set}
use Rattle.plan_core.specs.NoneLost.{LosesNone}
use Rattle.span_bisect.specs.Answer.{IsAnswer, answer_record, answer_spans}
use Rattle.span_pool.specs.Pool.{slots_used}
use Rattle.plan_core.proofs.planner.Planner.track.Goals as goal

pub invariant_of-self : goal.invariant_of-self
invariant_of-self c = record {
  ready = c.self.invariant.ready;
  few = c.self.invariant.few;
  slots = omega (arith, c.track_pair-cover.ensures.kept.slots, c.self.invariant.slots);
}

pub returns-clause-certified : goal.returns-clause-certified
returns-clause-certified c =
    rw (← c.self.view_is) (λ entry row e r. subst (λ set. IsAnswer (sight_of c.self.inside.setting set row) c.self.inside.setting.window.resolution c.self.inside.pool c.track_pair-cover.new.pool c.track_pair-cover.result.answer) (entry_set c.self.inside.satellites.items c.args.sat c.index-satellite.result.now entry c.index-satellite.ensures e) (c.track_pair-cover.ensures.row row r).certified)

pub returns-clause-none_lost : goal.returns-clause-none_lost
returns-clause-none_lost c =
    let setting = c.self.inside.setting in
    let result = c.track_pair-cover.result.answer in
    let list = answer_spans c.track_pair-cover.new.pool result in
    rw (← c.self.view_is) (λ entry row e r.
    subst (λ set. LosesNone setting set row (answer_record result) list)
    (entry_set c.self.inside.satellites.items c.args.sat c.index-satellite.result.now entry c.index-satellite.ensures e)
    (long_contacts_are_visible setting c.index-satellite.result.now.set row c.self.inside.pool.slots (slots_used c.self.inside.pool) (answer_record result) list
    (station_in_range setting.stations c.args.station row c.track_pair-cover.ensures.stations r) (c.track_pair-cover.ensures.row row r).certified))
