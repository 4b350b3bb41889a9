-- What the answer of a call for a word says of the words, where these are told.
use Rattle.std.specs.Prelude.{◌≡◌, ◌<◌, ℕ, List, length, take, slice_get, ⊤, Result, Ok, Err, Option, None, Some}
use Rattle.std.specs.declared.env.FillError.{FillError}
use Rattle.std.specs.declared.env.FillError.TheVariants.{NotPresent, TooLong}

-- the word at this place stands at the front of the buffer; or there is none; or it is longer than the buffer
abbrev pub IsWordIn : List (List ℕ) → ℕ → List ℕ → Result ℕ FillError → Type 0
IsWordIn words place buffer (Ok count) = slice_get words place ≡ Some (take count buffer)
IsWordIn words place buffer (Err NotPresent) = slice_get words place ≡ None
IsWordIn words place buffer (Err TooLong) = (word : List ℕ) × (slice_get words place ≡ Some word) × (length buffer < length word)

abbrev pub IsWordAt : Option (List (List ℕ)) → ℕ → List ℕ → Result ℕ FillError → Type 0
IsWordAt None place buffer answer = ⊤
IsWordAt (Some words) place buffer answer = IsWordIn words place buffer answer

-- where the words are told, these are they
abbrev pub AreTold : Option (List (List ℕ)) → List (List ℕ) → Type 0
AreTold None words = ⊤
AreTold (Some told) words = words ≡ told
