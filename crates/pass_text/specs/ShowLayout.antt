-- What the command `show` prints of the satellites of a catalogue.
use Rattle.std.specs.Prelude.{ℕ, List, [], ◌∷◌, ◌++◌, codes, decimal}
use Rattle.catalogue.specs.declared.entry.Entry.{Entry}
use Rattle.civil_time.specs.InstantText.{instant_text}
use Rattle.decimals.specs.PrintedDecimal.{decimal_text}
use Rattle.elements.specs.Elements.{ElementsRecord}

-- `SET <number> <epoch> <motion> <ecc> <incl> <node> <argp> <anomaly> <bstar> <name>`
unfoldable pub set_line : ElementsRecord → List ℕ → List ℕ
set_line e name =
    codes "SET " ++ decimal e.number ++ codes " " ++ instant_text 9 e.epoch
    ++ codes " " ++ decimal_text e.motion ++ codes " " ++ decimal_text e.ecc ++ codes " " ++ decimal_text e.incl
    ++ codes " " ++ decimal_text e.node ++ codes " " ++ decimal_text e.argp ++ codes " " ++ decimal_text e.anomaly
    ++ codes " " ++ decimal_text e.bstar ++ codes " " ++ name ++ codes "\n"

-- a line for each satellite
abbrev pub set_lines : List Entry → List ℕ
set_lines [] = []
set_lines (entry ∷ rest) = set_line entry.elements entry.name ++ set_lines rest

-- the whole text: the heading, the satellites, the end
abbrev pub show_layout : List Entry → List ℕ
show_layout entries = codes "PASSSHOW 1\n" ++ (set_lines entries ++ codes "END\n")
