-- A step of the reading of the words.
use Rattle.std.proofs.Common.{◌≡◌, ℕ, zero, suc, ◌+◌, ◌-◌, ◌<◌, arith, List, [], ◌∷◌, length, get_or, drop, Result, refl, ap, sym, ◌∙◌}
use Rattle.std.proofs.lemmas.List.{at_drop_more}
use Rattle.pass_words.specs.declared.fault.UsageFault.{UsageFault}
use Rattle.pass_words.specs.declared.key.Opt.{Opt}
use Rattle.pass_words.specs.declared.role.Role.{Role}
use Rattle.pass_words.specs.Places.{Places, none_yet}
use Rattle.pass_words.specs.Roles.{role, roles, first_word}
use Rattle.pass_words.specs.Options.{options, option_roles}
use Rattle.pass_words.specs.Taken.{taken}
use Rattle.pass_words.proofs.OptionsLemmas.{read_on, read_on-options}
use Rattle.elements.specs.Steps.{◌>>=◌}

-- the first word of those from an index on
pub first_word-drop : (i : ℕ) (words : List (List ℕ)) → first_word (drop i words) ≡ get_or words i []
first_word-drop zero [] = refl
first_word-drop zero (word ∷ words) = refl
first_word-drop (suc i) [] = refl
first_word-drop (suc i) (word ∷ words) = first_word-drop i words

-- the roles from an index on begin with that of the word there
pub roles-drop : (keys : List Opt) (at i : ℕ) (before : List ℕ) (words : List (List ℕ)) → i < length words
    → roles keys at before (drop i words) ≡ role keys at before (get_or words i []) (get_or words (i + 1) []) ∷ roles keys (at + 1) (get_or words i []) (drop (i + 1) words)
roles-drop keys at i before words h =
    at_drop_more (roles keys at before) words i [] h
    ∙ ap (λ next. role keys at before (get_or words i []) next ∷ roles keys (at + 1) (get_or words i []) (drop (i + 1) words)) (first_word-drop (i + 1) words)

-- reading goes on after the word at an index, of which `read` is what was read
pub read_on-drop : (keys : List Opt) (i : ℕ) (before word next : List ℕ) (words : List (List ℕ)) (places : Places) (one : Role) (read : Result Places UsageFault) → i < length words
    → before ≡ get_or words (i - 1) [] → word ≡ get_or words i [] → next ≡ get_or words (i + 1) []
    → one ≡ role keys (i + 1) before word next → read ≡ taken (i + 1) places one
    → read_on (i + 1) places (roles keys (i + 1) (get_or words (i - 1) []) (drop i words))
    ≡ read >>= (λ after. read_on (i + 1 + 1) after (roles keys (i + 1 + 1) (get_or words (i + 1 - 1) []) (drop (i + 1) words)))
read_on-drop keys i before word next words places one read h is_before is_word is_next is_one is_read =
    let same : i + 1 - 1 ≡ i = omega arith in
    ap (read_on (i + 1) places) (roles-drop keys (i + 1) i (get_or words (i - 1) []) words h) ∙ rw (same, is_read, is_one, is_before, is_word, is_next)

-- the roles after the command, from index 1 on
option_roles-drop : (keys : List Opt) (words : List (List ℕ)) → option_roles keys words ≡ roles keys 2 (get_or words 0 []) (drop 1 words)
option_roles-drop keys [] = refl
option_roles-drop keys (word ∷ words) = refl

-- the options are what is read from index 1 on
pub options-drop : (keys : List Opt) (words : List (List ℕ)) → options (option_roles keys words) ≡ read_on 2 none_yet (roles keys 2 (get_or words 0 []) (drop 1 words))
options-drop keys words = rw option_roles-drop (sym (read_on-options [] 2 (roles keys 2 (get_or words 0 []) (drop 1 words))))
