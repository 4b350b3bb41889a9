use Rattle.std.proofs.Common.{◌≡◌, ℕ, List, Option, None, Some, Bor, IfSome, option_copied, is_some, refl, sym, ap, ◌∙◌}
use Rattle.catalogue.specs.declared.entry.Entry.{Entry}
use Rattle.catalogue.specs.Entries.{entry_with, has_number}
use Rattle.catalogue.proofs.MapLemmas.{entry_with-is_some, entry_with-number, lookup_entry}
use Rattle.catalogue.proofs.catalogue.Catalogue.find.Goals as goal

copied-is_some : {A : Type 0} (found : Option (Bor A)) → is_some found ≡ is_some (option_copied found)
copied-is_some None = refl
copied-is_some (Some a) = refl

number_of : (number : ℕ) (entries : List Entry) (found : Option (Bor Entry)) → option_copied found ≡ entry_with number entries
    → IfSome found (λ entry. entry.now.elements.number ≡ number)
number_of number entries None h = tt
number_of number entries (Some entry) h = entry_with-number number entries entry.now (sym h)

pub returns-clause-found : goal.returns-clause-found
returns-clause-found c =
    let m = c.self.inside.by_number in
    copied-is_some c.get.result
    ∙ ap is_some (c.get.ensures.value ∙ lookup_entry c.args.number m.entries c.self.invariant.0)
    ∙ entry_with-is_some c.args.number _
    ∙ ap (λ es. has_number c.args.number es) c.self.view_is

pub returns-clause-number : goal.returns-clause-number
returns-clause-number c =
    let m = c.self.inside.by_number in
    number_of c.args.number _ c.get.result (c.get.ensures.value ∙ lookup_entry c.args.number m.entries c.self.invariant.0)
