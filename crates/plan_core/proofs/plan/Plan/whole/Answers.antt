use Rattle.std.proofs.Common.{ap, sym, ◌∙◌}
use Rattle.std.specs.List.{list_all}
use Rattle.plan_core.specs.Whole.{has_spans_alone}
use Rattle.plan_core.proofs.ReaderLemmas.{whole_is}
use Rattle.plan_core.proofs.plan.Plan.whole.Goals as goal

pub returns : goal.returns
returns c =
    rw (← c.self.view_is) (c.are_resolved.ensures ∙ ap (list_all has_spans_alone) c.deref.ensures.value ∙ sym (whole_is c.self.inside.pool c.self.inside.satellites.items))
