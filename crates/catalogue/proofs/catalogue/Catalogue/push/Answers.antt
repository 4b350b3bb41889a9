use Rattle.std.proofs.Common.{[], ◌∷◌, ◌++◌, nat_eq, ap, ◌∙◌}
use Rattle.std.specs.Map.{values_of}
use Rattle.indexmap.specs.IndexMap.{insert_entry}
use Rattle.indexmap.proofs.CallerLemmas.{insert_entry-new}
use Rattle.catalogue.specs.Entries.{has_number}
use Rattle.catalogue.proofs.MapLemmas.{lookup-absent, values_of-push, numbers-push, catalogue-push}
use Rattle.catalogue.proofs.catalogue.Catalogue.push.Goals as goal

pub invariant_of-self : goal.invariant_of-self
invariant_of-self c =
    let m = c.self.inside.by_number in
    let e = c.args.entry in
    let n = e.elements.number in
    let none = lookup-absent n m.entries c.self.invariant.0 (ap (has_number n) c.self.view_is ∙ c.requires.absent) in
    let new = c.in-Ok.ensures.entries ∙ ap (λ k. insert_entry nat_eq m.entries k e) c.number.ensures.value ∙ insert_entry-new nat_eq m n e none in (
      rw (new) (numbers-push m.entries e c.self.invariant.0),
      rw (new, values_of-push m.entries n e) (catalogue-push (values_of m.entries) e c.self.invariant.1 (rw c.self.view_is c.requires.room) c.requires.name),
    )

pub returns-in-Ok-clause-ok : goal.returns-in-Ok-clause-ok
returns-in-Ok-clause-ok c =
    let m = c.self.inside.by_number in
    let e = c.args.entry in
    let n = e.elements.number in
    let none = lookup-absent n m.entries c.self.invariant.0 (ap (has_number n) c.self.view_is ∙ c.requires.absent) in
    ap values_of (c.in-Ok.ensures.entries ∙ ap (λ k. insert_entry nat_eq m.entries k e) c.number.ensures.value ∙ insert_entry-new nat_eq m n e none)
    ∙ values_of-push m.entries n e
    ∙ ap (λ vs. vs ++ e ∷ []) c.self.view_is
