-- What each word after the command is: part of an option, or not.
use Rattle.std.specs.Prelude.{ℕ, ◌+◌, ◌==◌, nat_lt, Bool, false, ◌&&◌, not, List, [], ◌∷◌, length, take, Option, Some, None, is_some, position, unwrap_or, if◌then◌else◌}
use Rattle.std.specs.Option.{option_or}
use Rattle.std.specs.Str.{is_utf8, byte}
use Rattle.pass_words.specs.declared.key.Opt.{Opt}
use Rattle.pass_words.specs.declared.part.Part.{Part}
use Rattle.pass_words.specs.declared.role.Role.{Role}
use Rattle.pass_words.specs.declared.role.Role.TheVariants.{Opens, Value, Stray}
use Rattle.pass_words.specs.Keys.{key_of}

-- a word can be the value of the key in the word before: it is not empty, and begins with no dash
abbrev pub may_be_value : List ℕ → Bool
may_be_value [] = false
may_be_value (first ∷ rest) = not (first == byte "-")

-- a word begins an option of this key, if there is one, whose value stands there
abbrev pub opens : Option Opt → Part → Option Role
opens None part = None
opens (Some key) part = Some (Opens key part)

-- the option of a word that is cut at its first `=`, with a value that is not empty behind it
abbrev pub whole_at : List Opt → ℕ → List ℕ → Option ℕ → Option Role
whole_at keys at word None = None
whole_at keys at word (Some sign) =
    if nat_lt (sign + 1) (length word)
    then opens (key_of keys (take sign word)) (record { word = at; from = sign + 1 })
    else None

-- where the first `=` of a word stands
abbrev pub first_sign : List ℕ → Option ℕ
first_sign word = position (λ b. b == byte "=") word

-- the option that stands whole in the word with this number, as `--key=value`
abbrev pub whole : List Opt → ℕ → List ℕ → Option Role
whole keys at word = whole_at keys at word (first_sign word)

-- the option of a word that names a key alone, where the next word can be its value
abbrev pub pair : List Opt → ℕ → List ℕ → List ℕ → Option Role
pair keys at word next =
    if may_be_value next then opens (key_of keys word) (record { word = at + 1; from = 0 }) else None

-- a word that begins no option: the value of a key that the word before names alone, or no part of an option
abbrev pub continued : List Opt → List ℕ → List ℕ → Role
continued keys before word = if may_be_value word && is_some (key_of keys before) then Value else Stray

-- the role of a word that is UTF-8: it begins an option, alone or with the next word; or else it goes on with one or not
abbrev pub text_role : List Opt → ℕ → List ℕ → List ℕ → List ℕ → Role
text_role keys at before word next =
    unwrap_or (option_or (whole keys at word) (pair keys at word next)) (continued keys before word)

-- the role of the word with this number, between the word before and the next, which is empty where there is none
abbrev pub role : List Opt → ℕ → List ℕ → List ℕ → List ℕ → Role
role keys at before word next = if is_utf8 word then text_role keys at before word next else Stray

-- the first of the words, and nothing where there is none
abbrev pub first_word : List (List ℕ) → List ℕ
first_word [] = []
first_word (word ∷ words) = word

-- the roles of these words, which are numbered from here and stand after another
abbrev pub roles : List Opt → ℕ → List ℕ → List (List ℕ) → List Role
roles keys at before [] = []
roles keys at before (word ∷ words) =
    role keys at before word (first_word words) ∷ roles keys (at + 1) word words
