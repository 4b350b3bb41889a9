-- What the command `locate` prints of a satellite at an instant.
use Rattle.std.specs.Prelude.{ℕ, ℤ, List, ◌++◌, codes, decimal, None, Some}
use Rattle.std.specs.Fmt.{signed_decimal}
use Rattle.civil_time.specs.InstantText.{instant_text}
use Rattle.sgp4_shape.specs.declared.fault.SatFault.{SatFault}
use Rattle.pass_text.specs.SatLine.{sat_line}

-- the bounds of a coordinate, in millimetres
pub record EdgeRecord : Type 0 where
  pub low : ℤ
  pub high : ℤ

-- what was found of a satellite: none has the number; one with a name, which is refused; one that is inside bounds of
-- its three coordinates; one that has decayed, and has no bounds
pub data FoundRecord : Type 0 where
  missing : FoundRecord
  refused : SatFault → List ℕ → FoundRecord
  inside : List ℕ → EdgeRecord → EdgeRecord → EdgeRecord → FoundRecord
  decayed : List ℕ → FoundRecord

-- an instant, in nanoseconds from 2000-01-01T12:00:00 UTC; a catalogue number; what was found of its satellite
pub record LocateRecord : Type 0 where
  pub at : ℤ
  pub number : ℕ
  pub found : FoundRecord

-- `AT <instant>`, with nine decimals
unfoldable pub at_line : ℤ → List ℕ
at_line at = codes "AT " ++ instant_text 9 at ++ codes "\n"

-- `MISSING <number>`
unfoldable pub missing_line : ℕ → List ℕ
missing_line number = codes "MISSING " ++ decimal number ++ codes "\n"

-- `<letter> <low> <high>`
unfoldable pub edge_line : List ℕ → ℤ → ℤ → List ℕ
edge_line letter low high =
    letter ++ codes " " ++ signed_decimal low ++ codes " " ++ signed_decimal high ++ codes "\n"

-- the line of the satellite, and those of its bounds
abbrev pub found_lines : ℕ → FoundRecord → List ℕ
found_lines number missing = missing_line number
found_lines number (refused fault name) = sat_line number (Some fault) name
found_lines number (inside name x y z) =
    sat_line number None name
    ++ (edge_line (codes "X") x.low x.high ++ (edge_line (codes "Y") y.low y.high ++ edge_line (codes "Z") z.low z.high))
found_lines number (decayed name) = sat_line number None name ++ codes "DECAYED\n"

-- the whole text: the heading, the instant, what was found, the end
abbrev pub locate_layout : LocateRecord → List ℕ
locate_layout r = codes "PASSLOCATE 1\n" ++ (at_line r.at ++ (found_lines r.number r.found ++ codes "END\n"))
