-- The element sets of a file of two-line sets, each with a name or none before it.
use Rattle.std.specs.Prelude.{ℕ, Bool, not, nat_lt, nat_eq, ◌&&◌, List, [], ◌∷◌, length, codes, Result, Ok, Err, if◌then◌else◌}
use Rattle.std.specs.List.{starts_with}
use Rattle.elements.specs.Elements.{ElementsRecord}
use Rattle.tle_read.specs.declared.fault.TleFault.{TleFault}
use Rattle.tle_read.specs.TwoLine.{tle_value}
use Rattle.catalogue.specs.declared.entry.Entry.{Entry}
use Rattle.catalogue.specs.declared.fault.CatFault.{CatFault}
use Rattle.catalogue.specs.declared.fault.CatFault.TheVariants.{Odd, BadSet}
use Rattle.catalogue.specs.declared.fault.SetFault.TheVariants.{Tle}
use Rattle.catalogue.specs.Lines.{NumberedLine}
use Rattle.catalogue.specs.Names.{name_of}

-- a line begins with 1 and a space
abbrev pub begins : NumberedLine → Bool
begins line = starts_with nat_eq line.text (codes "1 ")

-- a line is line 1 of a set without a name, where this one follows it
abbrev pub is_first : NumberedLine → NumberedLine → Bool
is_first line next = begins line && not (begins next)

-- a line may be a name before a set, where this one follows it: it has at most 68 bytes
abbrev pub is_name_of : NumberedLine → NumberedLine → Bool
is_name_of line next = not (nat_lt 68 (length line.text)) && begins next

-- what was read of the set whose line 1 has this number, with its name
abbrev pub named : List ℕ → ℕ → Result ElementsRecord TleFault → Result Entry CatFault
named name number (Ok elements) = Ok (record { elements = elements; name = name_of name })
named name number (Err fault) = Err (BadSet number (Tle fault))

-- the set of two lines
abbrev pub pair : List ℕ → NumberedLine → NumberedLine → Result Entry CatFault
pair name line1 line2 = named name line1.number (tle_value line1.text line2.text)

-- of written lines each set, or its fault; what follows a line at the wrong place is not read
unfoldable pub sets_of : List NumberedLine → List (Result Entry CatFault)
sets_of [] = []
sets_of (line ∷ []) = Err (Odd line.number) ∷ []
sets_of (line ∷ next ∷ []) =
    if is_first line next then pair [] line next ∷ []
    else (if is_name_of line next then Err (Odd next.number) ∷ [] else Err (Odd line.number) ∷ [])
sets_of (line ∷ next ∷ third ∷ rest) =
    if is_first line next then pair [] line next ∷ sets_of (third ∷ rest)
    else (if is_name_of line next then pair line.text next third ∷ sets_of rest else Err (Odd line.number) ∷ [])
