-- The line that the program prints where a file is no station file.
use Rattle.std.specs.Prelude.{ℕ, List, ◌++◌, codes, decimal}
use Rattle.pass_text.specs.Refusals.{memory_line}
use Rattle.station_file.specs.declared.fault.StFault.{StFault}
use Rattle.station_file.specs.declared.fault.StFault.TheVariants.{NotUtf8, NotToml, Shape, Empty, TooMany, Range, Twice, Mask, OutOfMemory}
use Rattle.station_file.specs.declared.fault.StKey.{StKey}
use Rattle.station_file.specs.Keys.{name_of}

-- `error stations <kind> <index> <key>`
unfoldable pub key_line : List ℕ → ℕ → StKey → List ℕ
key_line kind index key =
    codes "error stations " ++ kind ++ codes " " ++ decimal index ++ codes " " ++ name_of key ++ codes "\n"

-- `error stations <kind> <index>`
unfoldable pub index_line : List ℕ → ℕ → List ℕ
index_line kind index = codes "error stations " ++ kind ++ codes " " ++ decimal index ++ codes "\n"

-- `error stations ..`, or `error memory`
unfoldable pub station_fault_line : StFault → List ℕ
station_fault_line NotUtf8 = codes "error stations notutf8\n"
station_fault_line NotToml = codes "error stations nottoml\n"
station_fault_line (Shape index key) = key_line (codes "shape") index key
station_fault_line Empty = codes "error stations empty\n"
station_fault_line TooMany = codes "error stations toomany\n"
station_fault_line (Range index key) = key_line (codes "range") index key
station_fault_line (Twice index) = index_line (codes "twice") index
station_fault_line (Mask index) = index_line (codes "mask") index
station_fault_line OutOfMemory = memory_line
