-- How the bytes of an output grow, where they are told.
use Rattle.std.specs.Prelude.{◌≡◌, ◌≤◌, ℕ, List, ◌++◌, length, take, ⊤, None, Some}
use Rattle.std.specs.declared.option.Option.{Option}

-- they grew by this piece
abbrev pub Grew : Option (List ℕ) → Option (List ℕ) → List ℕ → Type 0
Grew None now piece = ⊤
Grew (Some old) now piece = now ≡ Some (old ++ piece)

-- they grew by a prefix of this piece
abbrev pub GrewByFront : Option (List ℕ) → Option (List ℕ) → List ℕ → Type 0
GrewByFront old now piece = (count : ℕ) × (count ≤ length piece) × Grew old now (take count piece)
