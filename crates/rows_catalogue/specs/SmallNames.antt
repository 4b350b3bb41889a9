-- Which short texts are names, and which are not; and which lists are no catalogues.
use Rattle.std.specs.Prelude.{◌≡◌, List, [], ◌∷◌, codes, length}
use Rattle.catalogue.specs.Entries.{IsCatalogue, IsName}
use Rattle.catalogue.specs.declared.entry.Entry.{Entry}

-- a name has 1 to 64 bytes from 32 to 126, so no line feed
pub record SmallNames : Type 0 where
  pub space : IsName (32 ∷ [])
  pub tilde : IsName (126 ∷ [])
  pub none : ¬ (IsName [])
  pub below : ¬ (IsName (31 ∷ []))
  pub above : ¬ (IsName (127 ∷ []))
  pub two_lines : ¬ (IsName (codes "A\nB"))
  pub longer : ¬ (IsName (codes "ABCDEFGHIJKLMNOPQRSTUVWXYZabcdefghijklmnopqrstuvwxyz0123456789+/="))

-- a catalogue has at most 16,384 entries, each with a name
pub record SmallCatalogues : Type 0 where
  pub too_many : (entries : List Entry) → length entries ≡ 16_385 → ¬ (IsCatalogue entries)
  pub unnamed : (entry : Entry) → entry.name ≡ [] → ¬ (IsCatalogue (entry ∷ []))
