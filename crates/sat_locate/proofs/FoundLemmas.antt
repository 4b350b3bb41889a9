-- From what is found of a set to what is found of a number.
use Rattle.std.proofs.Common.{◌≡◌, ◌∙◌, ℕ, ℤ, List, Some}
use Rattle.catalogue.specs.Entries.{entry_with}
use Rattle.catalogue.specs.declared.entry.Entry.{Entry}
use Rattle.pass_text.specs.LocateLayout.{FoundRecord, missing, refused, inside, decayed}
use Rattle.sat_locate.specs.Found.{IsFoundFor, IsFoundOf}

pub found_of_entry : (entries : List Entry) (number : ℕ) (at : ℤ) (entry : Entry) (name : List ℕ) (f : FoundRecord) → entry_with number entries ≡ Some entry → name ≡ entry.name → IsFoundFor entry.elements name at f → IsFoundOf entries number at f
found_of_entry entries number at entry name missing is named h = absurd h
found_of_entry entries number at entry name (refused fault given) is named h = record { entry = entry; entry_is = is; name_is = h.0 ∙ named; holds_it = h.1 }
found_of_entry entries number at entry name (inside given x y z) is named h = record { entry = entry; entry_is = is; name_is = h.0 ∙ named; holds_it = h.1 }
found_of_entry entries number at entry name (decayed given) is named h = absurd h
