use Rattle.std.proofs.Common.{nat_eq, ap, ◌∙◌}
use Rattle.std.specs.Map.{values_of}
use Rattle.indexmap.specs.IndexMap.{insert_entry}
use Rattle.catalogue.specs.Keeping.{with_entry}
use Rattle.catalogue.proofs.KeepingLemmas.{values_of-insert, numbers-insert, catalogue-with_entry}
use Rattle.catalogue.proofs.catalogue.Catalogue.put.Goals as goal

pub invariant_of-self : goal.invariant_of-self
invariant_of-self c =
    let m = c.self.inside.by_number in
    let set = c.args.set in
    let new = c.in-Ok.ensures.entries ∙ ap (λ k. insert_entry nat_eq m.entries k set) c.number.ensures.value in (
      rw (new) (numbers-insert set m.entries c.self.invariant.0),
      rw (new, values_of-insert set m.entries c.self.invariant.0) (catalogue-with_entry set (values_of m.entries) c.self.invariant.1 (rw c.self.view_is c.requires.room) c.requires.name),
    )

pub returns-in-Ok : goal.returns-in-Ok
returns-in-Ok c =
    let m = c.self.inside.by_number in
    let set = c.args.set in
    ap values_of (c.in-Ok.ensures.entries ∙ ap (λ k. insert_entry nat_eq m.entries k set) c.number.ensures.value)
    ∙ values_of-insert set m.entries c.self.invariant.0
    ∙ ap (with_entry set) c.self.view_is
