-- The lines at the head of a plan: the offset, where it is not 0, and the stations.
use Rattle.std.specs.Prelude.{ℕ, zero, suc, ◌+◌, ℤ, pos, negsuc, List, [], ◌∷◌, ◌++◌, map, codes, decimal}
use Rattle.std.specs.Fmt.{signed_decimal}
use Rattle.catalogue.specs.Names.{printed}

-- `DUT1 <milliseconds>`
unfoldable pub offset_line : ℤ → List ℕ
offset_line ms = codes "DUT1 " ++ signed_decimal ms ++ codes "\n"

-- this line, where the offset is not 0
abbrev pub offset_lines : ℤ → List ℕ
offset_lines (pos zero) = []
offset_lines (pos (suc before)) = offset_line (pos (suc before))
offset_lines (negsuc size) = offset_line (negsuc size)

-- a name as it is printed: a byte that is not from 32 to 126 is a question mark
abbrev pub printed_name : List ℕ → List ℕ
printed_name name = map printed name

-- `STATION <index> <name>`
unfoldable pub station_line : ℕ → List ℕ → List ℕ
station_line index name =
    codes "STATION " ++ decimal index ++ codes " " ++ printed_name name ++ codes "\n"

-- a line for each station, from this index on
abbrev pub station_lines : ℕ → List (List ℕ) → List ℕ
station_lines index [] = []
station_lines index (name ∷ rest) = station_line index name ++ station_lines (index + 1) rest
