-- The places of the values of all keys of a command, and the values.
use Rattle.std.specs.Prelude.{ℕ, ◌-◌, List, [], drop, slice_index_or, find, Option, Some, None, is_none, option_map, Result}
use Rattle.pass_words.specs.declared.fault.UsageFault.{UsageFault}
use Rattle.pass_words.specs.declared.fault.UsageFault.TheVariants as faults
use Rattle.pass_words.specs.declared.key.Opt.{Opt}
use Rattle.pass_words.specs.declared.part.Part.{Part}
use Rattle.pass_words.specs.Options.{option_roles, options, unless}
use Rattle.pass_words.specs.Places.{Places}
use Rattle.elements.specs.Steps.{◌>>=◌}

-- the first of the keys that has no value
abbrev pub first_missing : List Opt → Places → Option Opt
first_missing keys places = find (λ key. is_none (places key)) keys

-- the places of the values of these keys in the words, or the first fault: that of the options from left to right, and
-- then the first key that has no value
abbrev pub placed : List Opt → List (List ℕ) → Result Places UsageFault
placed keys words = do
  places ← options (option_roles keys words)
  unless (option_map faults.Missing (first_missing keys places)) places

-- the bytes of a part of the words
abbrev pub text_at : List (List ℕ) → Part → List ℕ
text_at words part = drop part.from (slice_index_or words (part.word - 1) [])

-- the bytes at a place that there may be
abbrev pub text_from : List (List ℕ) → Option Part → List ℕ
text_from words None = []
text_from words (Some part) = text_at words part

-- the value of a key
abbrev pub text_of : List (List ℕ) → Places → Opt → List ℕ
text_of words places key = text_from words (places key)
