-- The satellites of a catalogue, each with an element set and a name.
use Rattle.std.specs.Prelude.{ℕ, ◌≤◌, ◌==◌, nat_eq, nat_lt, Bool, not, List, length, map, find, All, Option}
use Rattle.std.specs.List.{list_any}
use Rattle.catalogue.specs.declared.entry.Entry.{Entry}

-- the byte is from 32 to 126
pub record IsPrintable (byte : ℕ) : Type 0 where
  pub least : 32 ≤ byte
  pub most : byte ≤ 126

-- a name has 1 to 64 bytes, each from 32 to 126
pub record IsName (name : List ℕ) : Type 0 where
  pub least : 1 ≤ length name
  pub most : length name ≤ 64
  pub printable : All IsPrintable name

-- the most satellites of a catalogue
abbrev pub most_entries : ℕ
most_entries = 16_384

-- the catalogue numbers, in order
abbrev pub numbers : List Entry → List ℕ
numbers entries = map (λ entry. entry.elements.number) entries

-- a satellite has this catalogue number
abbrev pub has_number : ℕ → List Entry → Bool
has_number number entries = list_any (nat_eq number) (numbers entries)

-- the satellite with this catalogue number, if there is one
abbrev pub entry_with : ℕ → List Entry → Option Entry
entry_with number entries = find (λ entry. number == entry.elements.number) entries

-- a catalogue has as many satellites as it may have
abbrev pub is_full : List Entry → Bool
is_full entries = not (nat_lt (length entries) most_entries)

-- at most 16,384 satellites, each with a name
pub record IsCatalogue (entries : List Entry) : Type 0 where
  pub most : length entries ≤ most_entries
  pub names : All (λ entry. IsName entry.name) entries
