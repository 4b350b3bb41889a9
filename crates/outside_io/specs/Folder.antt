-- Files in memory: bytes by name.
use Rattle.std.specs.Prelude.{ℕ, List, Vec, map as list_map}
use Rattle.std.specs.declared.alloc.Global.{Global}
use Rattle.std.specs.Ordering.{nat_cmp}
use Rattle.std.specs.Cmp.Lexicographic.{slice_cmp}
use Rattle.std.specs.FinMap as map
use Rattle.std.specs.Coded.{Coded, coded_list, coded_ℕ}

-- the bytes of each file, by its name
abbrev pub Files : Type 0
Files = map.FinMap (slice_cmp nat_cmp) (List ℕ)

-- files are stored as the list of their names and bytes
abbrev pub files_code : Coded Files
files_code = map.code (coded_list coded_ℕ) (coded_list coded_ℕ)

-- the files of a list of names and bytes in vectors
abbrev pub files_of : List (Vec ℕ Global × Vec ℕ Global) → Files
files_of entries = map.from_entries (list_map (λ e. (e.0.items, e.1.items)) entries)
