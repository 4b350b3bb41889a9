-- The options, read word by word.
use Rattle.std.proofs.Common.{◌≡◌, ℕ, ◌+◌, Bool, true, false, List, [], ◌∷◌, ◌++◌, Option, Some, None, is_some, Result, Ok, Err, cond, refl, ap, sym, ◌∙◌, append_assoc}
use Rattle.std.proofs.lemmas.Bool.{true≢false}
use Rattle.std.proofs.lemmas.List.{append-nil}
use Rattle.std.specs.Option.{option_or}
use mathlib.Core.Path.{fun_ext}
use Rattle.pass_words.specs.declared.fault.UsageFault.{UsageFault}
use Rattle.pass_words.specs.declared.fault.UsageFault.TheVariants.{Twice}
use Rattle.pass_words.specs.declared.key.Opt.{Opt}
use Rattle.pass_words.specs.declared.key.Opt.TheVariants.{Lat, Lon, Start, End, Res, Catalogue, Stations, Number, At, Count, Antennas}
use Rattle.pass_words.specs.declared.part.Part.{Part}
use Rattle.pass_words.specs.declared.role.Role.{Role}
use Rattle.pass_words.specs.declared.role.Role.TheVariants.{Opens, Value, Stray}
use Rattle.pass_words.specs.Options.{place_of, first_fault, unless}
use Rattle.pass_words.specs.Places.{Places, is_same, filled}
use Rattle.elements.specs.Steps.{◌>>=◌}
use Rattle.pass_words.specs.Taken.{taken}

-- the places that are left to read one word after another, or the first fault
abbrev pub read_on : ℕ → Places → List Role → Result Places UsageFault
read_on at places [] = Ok places
read_on at places (role ∷ rest) = taken at places role >>= (λ next. read_on (at + 1) next rest)

-- keys that test as the same are the same
same_key : (a b : Opt) → is_same a b ≡ true → a ≡ b
same_key Lat Lat h = refl
same_key Lon Lon h = refl
same_key Start Start h = refl
same_key End End h = refl
same_key Res Res h = refl
same_key Catalogue Catalogue h = refl
same_key Stations Stations h = refl
same_key Number Number h = refl
same_key At At h = refl
same_key Count Count h = refl
same_key Antennas Antennas h = refl
same_key _ _ h = cc

-- the place of a key in two lists of roles: in the first, or else in the second
place_of-append : (earlier rest : List Role) (key : Opt) → place_of (earlier ++ rest) key ≡ option_or (place_of earlier key) (place_of rest key)
place_of-append [] rest key = refl
place_of-append (Value ∷ earlier) rest key = place_of-append earlier rest key
place_of-append (Stray ∷ earlier) rest key = place_of-append earlier rest key
place_of-append (Opens other part ∷ earlier) rest key = go (is_same other key) (place_of-append earlier rest key)
  where
    go : (b : Bool) → place_of (earlier ++ rest) key ≡ option_or (place_of earlier key) (place_of rest key) → cond b (Some part) (place_of (earlier ++ rest) key) ≡ option_or (cond b (Some part) (place_of earlier key)) (place_of rest key)
    go true ih = refl
    go false ih = ih

-- or else nothing
option_or-none : {A : Type 0} (o : Option A) → option_or o None ≡ o
option_or-none None = refl
option_or-none (Some x) = refl

-- the value of a key adds no place
place_of-value : (earlier : List Role) → place_of (earlier ++ Value ∷ []) ≡ place_of earlier
place_of-value earlier = fun_ext (λ key. place_of-append earlier (Value ∷ []) key ∙ option_or-none (place_of earlier key))

-- an option whose key did not stand before adds its place
place_of-opens : (earlier : List Role) (key : Opt) (part : Part) → is_some (place_of earlier key) ≡ false → place_of (earlier ++ Opens key part ∷ []) ≡ filled key part (place_of earlier)
place_of-opens earlier key part new = fun_ext at_key
  where
    at_other : (b : Bool) (o : Option Part) → (b ≡ true → is_some o ≡ false) → option_or o (cond b (Some part) None) ≡ cond b (Some part) o
    at_other true None h = refl
    at_other true (Some x) h = absurd (true≢false (h refl))
    at_other false o h = option_or-none o

    at_key : (other : Opt) → place_of (earlier ++ Opens key part ∷ []) other ≡ filled key part (place_of earlier) other
    at_key other =
        place_of-append earlier (Opens key part ∷ []) other
        ∙ at_other (is_same key other) (place_of earlier other) (λ same. rw (← same_key key other same) new)

-- one word more behind others
add_one_role : (earlier : List Role) (role : Role) (rest : List Role) → place_of ((earlier ++ role ∷ []) ++ rest) ≡ place_of (earlier ++ role ∷ rest)
add_one_role earlier role rest = ap place_of (append_assoc earlier (role ∷ []) rest)

-- words that are read one after another give their options or their first fault
pub read_on-options : (earlier : List Role) (at : ℕ) (rest : List Role) → read_on at (place_of earlier) rest ≡ unless (first_fault earlier at rest) (place_of (earlier ++ rest))
read_on-options earlier at [] = rw append-nil
read_on-options earlier at (Stray ∷ rest) = refl
read_on-options earlier at (Value ∷ rest) =
    ap (λ places. read_on (at + 1) places rest) (sym (place_of-value earlier))
    ∙ (read_on-options (earlier ++ Value ∷ []) (at + 1) rest ∙ ap (unless (first_fault (earlier ++ Value ∷ []) (at + 1) rest)) (add_one_role earlier Value rest))
read_on-options earlier at (Opens key part ∷ rest) =
    go (is_some (place_of earlier key)) refl
    (read_on-options (earlier ++ Opens key part ∷ []) (at + 1) rest ∙ ap (unless (first_fault (earlier ++ Opens key part ∷ []) (at + 1) rest)) (add_one_role earlier (Opens key part) rest))
  where
    go : (b : Bool) → is_some (place_of earlier key) ≡ b
        → read_on (at + 1) (place_of (earlier ++ Opens key part ∷ [])) rest ≡ unless (first_fault (earlier ++ Opens key part ∷ []) (at + 1) rest) (place_of (earlier ++ Opens key part ∷ rest))
        → cond b (Err (Twice key)) (Ok (filled key part (place_of earlier))) >>= (λ next. read_on (at + 1) next rest)
        ≡ unless (option_or (cond b (Some (Twice key)) None) (first_fault (earlier ++ Opens key part ∷ []) (at + 1) rest)) (place_of (earlier ++ Opens key part ∷ rest))
    go true e ih = refl
    go false e ih = ap (λ places. read_on (at + 1) places rest) (sym (place_of-opens earlier key part e)) ∙ ih
