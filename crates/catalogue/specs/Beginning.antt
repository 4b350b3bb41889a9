-- Where the next message of a text begins.
use Rattle.std.specs.Prelude.{◌≡◌, ℕ, ◌+◌, ◌<◌, ◌≤◌, List, [], ◌∷◌, length, take, drop}
use Rattle.omm_kvn.specs.Lines.{split}
use Rattle.catalogue.specs.MessageFile.{messages_from}
use Rattle.catalogue.specs.declared.beginning.Beginning.{Beginning}

-- the message at the beginning of a text whose first line has this number ends at a line feed, and the next message
-- begins behind it
pub record IsBeginning (number : ℕ) (text : List ℕ) (next : Beginning) : Type 0 where
  pub inside : next.end < length text
  pub count : next.number ≤ number + (next.end + 1)
  pub positive : 1 ≤ next.number
  pub cuts : messages_from number (split text) ≡ record { number = number; text = take next.end text } ∷ messages_from next.number (split (drop (next.end + 1) text))

-- the message at the beginning of the text goes on to its end
abbrev pub IsLast : ℕ → List ℕ → Type 0
IsLast number text = messages_from number (split text) ≡ record { number = number; text = text } ∷ []
