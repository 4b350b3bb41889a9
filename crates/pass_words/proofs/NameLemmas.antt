-- The values of options stand in the words.
use Rattle.std.proofs.Common.{◌≡◌, arith, ℕ, suc, ◌+◌, ◌-◌, ◌<◌, ◌≤◌, ◌⊎◌, inl, inr, Bool, true, false, List, [], ◌∷◌, ◌++◌, length, get_or, Option, Some, None, is_none, Ok, Err, cond, refl, ap, sym, subst, ◌∙◌, take}
use Rattle.std.proofs.lemmas.Option.{none-some}
use Rattle.std.proofs.lemmas.Bool.Decides.{nat_tests}
use Rattle.std.specs.Prelude.{nat_lt, option_map, unwrap_or}
use Rattle.std.specs.Option.{option_or}
use Rattle.std.specs.Str.{is_utf8}
use Rattle.pass_words.specs.declared.fault.UsageFault.{UsageFault}
use Rattle.pass_words.specs.declared.fault.UsageFault.TheVariants as faults
use Rattle.pass_words.specs.declared.key.Opt.{Opt}
use Rattle.pass_words.specs.declared.part.Part.{Part}
use Rattle.pass_words.specs.declared.role.Role.{Role}
use Rattle.pass_words.specs.declared.role.Role.TheVariants.{Opens, Value, Stray}
use Rattle.pass_words.specs.Keys.{key_of}
use Rattle.pass_words.specs.Names.{IsPartOf}
use Rattle.pass_words.specs.Options.{first_fault, option_roles, place_of, unless}
use Rattle.pass_words.specs.Placed.{first_missing, placed}
use Rattle.pass_words.specs.Places.{Places, is_same}
use Rattle.pass_words.specs.Roles.{continued, first_sign, first_word, may_be_value, opens, pair, role, roles, text_role, whole, whole_at}
use Rattle.elements.specs.Steps.{◌>>=◌}
use Rattle.pass_words.specs.Values.{part_given}

-- the value of an option stands in its word, or in the next
abbrev Stands : ℕ → List ℕ → List ℕ → Part → Type 0
Stands at word next part = ((part.word ≡ at) × (part.from < length word)) ⊎ ((part.word ≡ at + 1) × (part.from < length next))

stands_as : (at : ℕ) (word next : List ℕ) (key : Opt) (found part : Part) (o : Option Opt) → Stands at word next found → opens o found ≡ Some (Opens key part) → Stands at word next part
stands_as at word next key found part None h e = absurd (none-some _ e)
stands_as at word next key found part (Some other) h e = let same : found ≡ part = cc in subst (Stands at word next) same h

whole_stands : (keys : List Opt) (at : ℕ) (word next : List ℕ) (key : Opt) (part : Part) (sign : Option ℕ) → whole_at keys at word sign ≡ Some (Opens key part) → Stands at word next part
whole_stands keys at word next key part None e = absurd (none-some _ e)
whole_stands keys at word next key part (Some sign) e = go (nat_lt (sign + 1) (length word)) refl e
  where
    found : Part
    found = record { word = at; from = sign + 1 }

    go : (b : Bool) → nat_lt (sign + 1) (length word) ≡ b → cond b (opens (key_of keys (take sign word)) found) None ≡ Some (Opens key part) → Stands at word next part
    go true inside e = stands_as at word next key found part (key_of keys (take sign word)) (inl (refl, grind (arith, nat_tests, inside))) e
    go false inside e = absurd (none-some _ e)

pair_stands : (keys : List Opt) (at : ℕ) (word next : List ℕ) (key : Opt) (part : Part) → pair keys at word next ≡ Some (Opens key part) → Stands at word next part
pair_stands keys at word [] key part e = absurd (none-some _ e)
pair_stands keys at word (first ∷ rest) key part e = go (may_be_value (first ∷ rest)) e
  where
    found : Part
    found = record { word = at + 1; from = 0 }

    go : (b : Bool) → cond b (opens (key_of keys word) found) None ≡ Some (Opens key part) → Stands at word (first ∷ rest) part
    go true e = stands_as at word (first ∷ rest) key found part (key_of keys word) (inr (refl, omega arith)) e
    go false e = absurd (none-some _ e)

role_stands : (keys : List Opt) (at : ℕ) (before word next : List ℕ) (key : Opt) (part : Part) → role keys at before word next ≡ Opens key part → Stands at word next part
role_stands keys at before word next key part e = as_text (is_utf8 word) e
  where
    no_continued : (b : Bool) → cond b Value Stray ≡ Opens key part → ⊥
    no_continued true e = cc
    no_continued false e = cc

    or_pair : (o : Option Role) → pair keys at word next ≡ o → unwrap_or o (continued keys before word) ≡ Opens key part → Stands at word next part
    or_pair None is e = absurd (no_continued _ e)
    or_pair (Some r) is e = pair_stands keys at word next key part (is ∙ ap Some e)

    or_whole : (o : Option Role) → whole keys at word ≡ o → unwrap_or (option_or o (pair keys at word next)) (continued keys before word) ≡ Opens key part → Stands at word next part
    or_whole None is e = or_pair (pair keys at word next) refl e
    or_whole (Some r) is e = whole_stands keys at word next key part (first_sign word) (is ∙ ap Some e)

    as_text : (b : Bool) → cond b (text_role keys at before word next) Stray ≡ Opens key part → Stands at word next part
    as_text true e = or_whole (whole keys at word) refl e
    as_text false e = absurd (no_continued false e)

-- the part stands in one of these words, the first of which has this number
abbrev StandsFrom : ℕ → List (List ℕ) → Part → Type 0
StandsFrom at words part = (at ≤ part.word) × (part.from < length (get_or words (part.word - at) []))

-- in these words, or in one before them
stands_later : (at : ℕ) (word : List ℕ) (words : List (List ℕ)) (part : Part) → StandsFrom (at + 1) words part → StandsFrom at (word ∷ words) part
stands_later at word words part h =
    let next : part.word - at ≡ suc (part.word - (at + 1)) = omega (arith, h.0) in
    (omega (arith, h.0), rw next h.1)

stands_here : (at : ℕ) (word : List ℕ) (words : List (List ℕ)) (part : Part) → Stands at word (first_word words) part → StandsFrom at (word ∷ words) part
stands_here at word words part (inl h) = let none : part.word - at ≡ 0 = omega (arith, h.0) in (omega (arith, h.0), rw none h.1)
stands_here at word [] part (inr h) = absurd (omega (arith, h.1))
stands_here at word (next ∷ words) part (inr h) = let one : part.word - at ≡ suc 0 = omega (arith, h.0) in (omega (arith, h.0), rw one h.1)

-- in the option that the first word begins, or later
first_or_later : (keys : List Opt) (at : ℕ) (before word : List ℕ) (words : List (List ℕ)) (key : Opt) (part : Part) →
    (place_of (roles keys (at + 1) word words) key ≡ Some part → StandsFrom at (word ∷ words) part) →
    place_of (roles keys at before (word ∷ words)) key ≡ Some part → StandsFrom at (word ∷ words) part
first_or_later keys at before word words key part later e = go (role keys at before word (first_word words)) refl e
  where
    pick : (other : Opt) (found : Part) → role keys at before word (first_word words) ≡ Opens other found → (b : Bool) →
        cond b (Some found) (place_of (roles keys (at + 1) word words) key) ≡ Some part → StandsFrom at (word ∷ words) part
    pick other found is true e =
        let same : found ≡ part = cc in
        stands_here at word words part (subst (Stands at word (first_word words)) same (role_stands keys at before word (first_word words) other found is))
    pick other found is false e = later e

    go : (r : Role) → role keys at before word (first_word words) ≡ r → place_of (r ∷ roles keys (at + 1) word words) key ≡ Some part → StandsFrom at (word ∷ words) part
    go Stray is e = later e
    go Value is e = later e
    go (Opens other found) is e = pick other found is (is_same other key) e

place_stands : (keys : List Opt) (at : ℕ) (before : List ℕ) (words : List (List ℕ)) (key : Opt) (part : Part) → place_of (roles keys at before words) key ≡ Some part → StandsFrom at words part
place_stands keys at before [] key part e = absurd (none-some _ e)
place_stands keys at before (word ∷ words) key part e =
    first_or_later keys at before word words key part (λ later. stands_later at word words part (place_stands keys (at + 1) word words key part later)) e

-- a value stands in the words behind the command
value_stands : (keys : List Opt) (words : List (List ℕ)) (key : Opt) (part : Part) → place_of (option_roles keys words) key ≡ Some part → IsPartOf words part
value_stands keys [] key part e = absurd (none-some _ e)
value_stands keys (command ∷ words) key part e =
    let h = place_stands keys 2 command words key part e in
    let next : part.word - 1 ≡ suc (part.word - 2) = omega (arith, h.0) in
    record { behind = h.0; inside = rw next h.1 }

-- ---- keys that all have a value
of_unless : {A : Type 0} (fault : Option UsageFault) (x y : A) → unless fault x ≡ Ok y → (fault ≡ None) × (x ≡ y)
of_unless None x y e = (refl, cc)
of_unless (Some fault) x y e = absurd (let no : Err fault ≡ Ok y = e in cc)

-- each of the keys has a value where none is missing
key_found : (earlier : List Opt) (key : Opt) (keys : List Opt) (places : Places) → first_missing (earlier ++ key ∷ keys) places ≡ None → (part : Part) × (places key ≡ Some part)
key_found [] key keys places e = go (places key) refl e
  where
    go : (o : Option Part) → places key ≡ o → cond (is_none o) (Some key) (first_missing keys places) ≡ None → (part : Part) × (places key ≡ Some part)
    go None is e = absurd (none-some _ (sym e))
    go (Some part) is e = (part, is)
key_found (other ∷ earlier) key keys places e = go (is_none (places other)) e (key_found earlier key keys places)
  where
    go : (b : Bool) → cond b (Some other) (first_missing (earlier ++ key ∷ keys) places) ≡ None → (first_missing (earlier ++ key ∷ keys) places ≡ None → (part : Part) × (places key ≡ Some part)) → (part : Part) × (places key ≡ Some part)
    go true e later = absurd (none-some _ (sym e))
    go false e later = later e

-- the value of each key of a command stands in the words
pub key_stands : (earlier : List Opt) (key : Opt) (keys : List Opt) (words : List (List ℕ)) (places : Places) → placed (earlier ++ key ∷ keys) words ≡ Ok places → IsPartOf words (part_given places key)
key_stands earlier key keys words places e = go (first_fault [] 2 (option_roles all words)) e
  where
    all : List Opt
    all = earlier ++ key ∷ keys

    found : Places
    found = place_of (option_roles all words)

    missing : (o : Option Opt) → first_missing all found ≡ o → unless (option_map faults.Missing o) found ≡ Ok places → IsPartOf words (part_given places key)
    missing (Some other) is e = absurd (let no : Err (faults.Missing other) ≡ Ok places = e in cc)
    missing None is e =
        let there = key_found earlier key keys found is in
        let same : found ≡ places = (of_unless None found places e).1 in
        let value : places key ≡ Some there.0 = subst (λ (p : Places). p key ≡ Some there.0) same there.1 in
        rw value (value_stands all words key there.0 there.1)

    go : (fault : Option UsageFault) → unless fault found >>= (λ places. unless (option_map faults.Missing (first_missing all places)) places) ≡ Ok places → IsPartOf words (part_given places key)
    go None e = missing (first_missing all found) refl e
    go (Some fault) e = absurd (let no : Err fault ≡ Ok places = e in cc)
