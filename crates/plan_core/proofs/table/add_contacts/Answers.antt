use Rattle.std.proofs.Common.{ap, sym, ◌++◌, ◌∙◌, None}
use Rattle.std.proofs.lemmas.List.{append-nil}
use Rattle.plan_core.proofs.TableLemmas.{contacts_are}
use Rattle.plan_core.proofs.table.add_contacts.Goals as goal

pub returns-in-None : goal.returns-in-None
returns-in-None c =
    let plan = c.args.plan.now in
    sym (append-nil c.args.contacts.now.items)
    ∙ ap (λ t. c.args.contacts.now.items ++ t) (sym (contacts_are plan.pool plan.satellites c.args.sat c.args.station c.sat.result.now None c.requires.sat c.sat.ensures.value c.in-None.ensures.value))
