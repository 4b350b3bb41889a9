-- What the answer of a load says of the bytes of a file, where these are told.
use Rattle.std.specs.Prelude.{◌≡◌, ◌<◌, ℕ, List, length, ⊤, None, Some}
use Rattle.std.specs.declared.option.Option.{Option}

-- these are the held bytes
abbrev pub IsTold : Option (List ℕ) → List ℕ → Type 0
IsTold None bytes = ⊤
IsTold (Some held) bytes = bytes ≡ held

-- the held bytes are more than there is room for
abbrev pub IsLonger : Option (List ℕ) → ℕ → Type 0
IsLonger None room = ⊤
IsLonger (Some held) room = room < length held
