-- What one step of reading does with the sets of a file that are left.
use Rattle.std.specs.Prelude.{◌≡◌, List, ◌∷◌, slice_get, Some, Result, Ok, Err}
use Rattle.catalogue.specs.declared.entry.Entry.{Entry}
use Rattle.catalogue.specs.declared.fault.CatFault.{CatFault}
use Rattle.catalogue.specs.declared.fault.CatFault.TheVariants.{OutOfMemory}

-- a set was read: it is the first of those that were left before, and these are left after; or its fault was found, or
-- memory is wanting
abbrev pub IsReadOf : Result Entry CatFault → List (Result Entry CatFault) → List (Result Entry CatFault) → Type 0
IsReadOf (Ok set) before after = before ≡ Ok set ∷ after
IsReadOf (Err fault) before after = ¬ (fault ≡ OutOfMemory) → slice_get before 0 ≡ Some (Err fault)
