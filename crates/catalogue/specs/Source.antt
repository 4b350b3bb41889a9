-- The element sets of a file that are left from a place on.
use Rattle.std.specs.Prelude.{◌≡◌, ◌<◌, List, [], length, Option, None, Some, Result}
use Rattle.catalogue.specs.declared.entry.Entry.{Entry}
use Rattle.catalogue.specs.declared.fault.CatFault.{CatFault}
use Rattle.catalogue.specs.declared.sets.Sets.{Sets}
use Rattle.catalogue.specs.declared.sets.Sets.TheVariants.{Pairs, Messages}
use Rattle.catalogue.specs.MessageFile.{sets_of_messages}
use Rattle.catalogue.specs.MessagePlace.{messages_at}
use Rattle.catalogue.specs.Place.{lines_at}
use Rattle.catalogue.specs.Reading.{IsReadOf}
use Rattle.catalogue.specs.TwoLineFile.{sets_of}

-- each set that is left, or its fault
abbrev pub sets_left : Sets → List (Result Entry CatFault)
sets_left (Pairs lines) = sets_of (lines_at lines)
sets_left (Messages place) = sets_of_messages (messages_at place)

-- no set was left before; or one was, and was read
abbrev pub IsNextOf : Option (Result Entry CatFault) → List (Result Entry CatFault) → List (Result Entry CatFault) → Type 0
IsNextOf None before after = before ≡ []
IsNextOf (Some set) before after = (0 < length before) × IsReadOf set before after
