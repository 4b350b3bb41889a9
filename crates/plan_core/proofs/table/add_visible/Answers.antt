use Rattle.std.proofs.Common.{ap, sym, ◌∙◌}
use Rattle.span_pool.specs.Pool.{list_of}
use Rattle.plan_core.proofs.TableLemmas.{more_hidden, more_visible}
use Rattle.plan_core.proofs.table.add_visible.Goals.{then-is_visible+in_ok-push, else-is_visible}
use Rattle.plan_core.proofs.table.add_visible.Goals as goal

pub loop-k-preserved : goal.loop-k-preserved
loop-k-preserved c =
    let list = list_of c.args.plan.now.pool c.args.track.now in
    elim c.if-is_visible.branch [
      | then-is_visible+in_ok-push w ↦ more_visible c.args.number c.args.contacts.now.items c.loop-k.contacts.items c.if-is_visible.contacts.items list c.loop-k.k c.in-Some.span (sym c.in-Some.ensures) c.loop-k.invariant (sym c.is_visible.ensures ∙ w.if-is_visible.true) (ap (λ v. v.items) w.contacts-is ∙ w.in_ok-push.ensures.items)
      | else-is_visible w ↦ ap (λ v. v.items) w.contacts-is ∙ more_hidden c.args.number c.args.contacts.now.items c.loop-k.contacts.items list c.loop-k.k c.in-Some.span (sym c.in-Some.ensures) c.loop-k.invariant (sym c.is_visible.ensures ∙ w.if-is_visible.false)
    ]
