-- The words as they are read from the arguments, where these are told.
use Rattle.std.specs.Prelude.{◌≡◌, ℕ, List, ⊤, Option, None, Some, slice_get}

-- what stands at this place: a word, or none
abbrev pub IsGiven : Option (List (List ℕ)) → ℕ → Option (List ℕ) → Type 0
IsGiven None place answer = ⊤
IsGiven (Some words) place answer = slice_get words place ≡ answer
