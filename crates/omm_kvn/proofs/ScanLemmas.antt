-- The lines of a message, one after another.
use Rattle.std.proofs.Common.{◌≡◌, ℕ, ◌+◌, ◌<◌, ◌==◌, Bool, true, false, cond, List, [], ◌∷◌, ◌++◌, length, take, drop, Option, None, Some, is_some, Result, Ok, Err, refl, sym, ap, ◌∙◌}
use Rattle.std.proofs.lemmas.Bool.{eqb-true}
use Rattle.std.proofs.lemmas.List.{append-nil, append_assoc, length-append}
use Rattle.std.specs.List.{position}
use Rattle.std.specs.Option.{option_or}
use mathlib.Core.Path.{fun_ext}
use Rattle.omm_kvn.specs.declared.fault.OmmFault.{OmmFault}
use Rattle.omm_kvn.specs.declared.fault.OmmFault.TheVariants as faults
use Rattle.omm_kvn.specs.declared.key.Key.{Key}
use Rattle.omm_kvn.specs.declared.line.Kind.{Kind}
use Rattle.omm_kvn.specs.declared.line.Kind.TheVariants.{Passed, Entry, Malformed}
use Rattle.omm_kvn.specs.declared.place.Place.{Place}
use Rattle.omm_kvn.specs.Entries.{is_unread, value_in, look_up, first_fault, unless_fault, entries}
use Rattle.omm_kvn.specs.Found.{taken, filled, none_yet}
use Rattle.omm_kvn.specs.Keys.{is_same, place_of}
use Rattle.omm_kvn.specs.Kinds.{kind_of}
use Rattle.omm_kvn.specs.Lines.{kinds, kinds_from}
use Rattle.omm_kvn.specs.Places.{Places}
use Rattle.elements.specs.Steps.{◌>>=◌}
use Rattle.omm_kvn.proofs.LineLemmas.{is_end, kinds-at, kinds-whole}

-- the places with those of the lines from this number on, or the first fault
abbrev pub scan_from : ℕ → Places → List Kind → Result Places OmmFault
scan_from number before [] = Ok before
scan_from number before (line ∷ lines) = taken number before line >>= (λ after. scan_from (number + 1) after lines)

-- the places of the values of these lines
abbrev pub places_of : List Kind → Places
places_of lines key = look_up key lines

or_none : {A : Type 0} (x : Option A) → option_or x None ≡ x
or_none None = refl
or_none (Some a) = refl

or_assoc : {A : Type 0} (x y z : Option A) → option_or (option_or x y) z ≡ option_or x (option_or y z)
or_assoc None y z = refl
or_assoc (Some a) y z = refl

-- one line more behind
look_up-push : (key : Key) (earlier : List Kind) (line : Kind) → look_up key (earlier ++ line ∷ []) ≡ option_or (look_up key earlier) (value_in key line)
look_up-push key [] line = or_none (value_in key line)
look_up-push key (other ∷ earlier) line =
    ap (option_or (value_in key other)) (look_up-push key earlier line)
    ∙ sym (or_assoc (value_in key other) (look_up key earlier) (value_in key line))

-- keys at one place have one value
value_in-same : (a b : Key) (line : Kind) → place_of a ≡ place_of b → value_in a line ≡ value_in b line
value_in-same a b Passed e = refl
value_in-same a b (Entry other value) e = ap (λ n. cond (place_of other == n) (Some value) None) e
value_in-same a b Malformed e = refl

look_up-same : (a b : Key) (lines : List Kind) → place_of a ≡ place_of b → look_up a lines ≡ look_up b lines
look_up-same a b [] e = refl
look_up-same a b (line ∷ lines) e = rw (value_in-same a b line e, look_up-same a b lines e) refl

-- a line without an entry changes no place
places-passed : (earlier : List Kind) (line : Kind) → ((key : Key) → value_in key line ≡ None) → places_of earlier ≡ places_of (earlier ++ line ∷ [])
places-passed earlier line none =
    fun_ext (λ key. sym (look_up-push key earlier line ∙ ap (option_or (look_up key earlier)) (none key) ∙ or_none (look_up key earlier)))

is_none : {A : Type 0} (x : Option A) → is_some x ≡ false → x ≡ None
is_none None h = refl
is_none (Some a) h = cc

-- a line with a key that no earlier line has fills its place
places-filled : (earlier : List Kind) (key : Key) (value : Place) → is_some (look_up key earlier) ≡ false
    → filled key value (places_of earlier) ≡ places_of (earlier ++ Entry key value ∷ [])
places-filled earlier key value new =
    fun_ext (λ other. by other (is_same key other) refl ∙ sym (look_up-push other earlier (Entry key value)))
  where
    by : (other : Key) (b : Bool) → is_same key other ≡ b
        → filled key value (places_of earlier) other ≡ option_or (look_up other earlier) (value_in other (Entry key value))
    by other true same = rw (same, ← look_up-same key other earlier (eqb-true _ _ same), is_none (look_up key earlier) new) refl
    by other false same = rw (same) (sym (or_none (look_up other earlier)))

-- the lines behind one more line
onward : (earlier : List Kind) (line : Kind) (places : Places) (lines : List Kind) → places ≡ places_of (earlier ++ line ∷ [])
    → scan_from (length (earlier ++ line ∷ []) + 1) (places_of (earlier ++ line ∷ [])) lines ≡ unless_fault (first_fault (earlier ++ line ∷ []) lines) ((earlier ++ line ∷ []) ++ lines)
    → scan_from (length earlier + 1 + 1) places lines ≡ unless_fault (first_fault (earlier ++ line ∷ []) lines) (earlier ++ line ∷ lines)
onward earlier line places lines same rest =
    ap (λ n. scan_from (n + 1) places lines) (sym (length-append earlier (line ∷ [])))
    ∙ ap (λ p. scan_from (length (earlier ++ line ∷ []) + 1) p lines) same
    ∙ rest
    ∙ ap (unless_fault (first_fault (earlier ++ line ∷ []) lines)) (append_assoc earlier (line ∷ []) lines)

step : (earlier : List Kind) (line : Kind) (lines : List Kind)
    → scan_from (length (earlier ++ line ∷ []) + 1) (places_of (earlier ++ line ∷ [])) lines ≡ unless_fault (first_fault (earlier ++ line ∷ []) lines) ((earlier ++ line ∷ []) ++ lines)
    → scan_from (length earlier + 1) (places_of earlier) (line ∷ lines) ≡ unless_fault (first_fault earlier (line ∷ lines)) (earlier ++ line ∷ lines)
step earlier Passed lines rest = onward earlier Passed (places_of earlier) lines (places-passed earlier Passed (λ key. refl)) rest
step earlier (Entry key value) lines rest = by (is_unread key) (is_some (look_up key earlier)) refl
  where
    by : (u t : Bool) → is_some (look_up key earlier) ≡ t
        → (cond u (Err (faults.Unsupported key)) (cond t (Err (faults.Twice key)) (Ok (filled key value (places_of earlier))))) >>= (λ after. scan_from (length earlier + 1 + 1) after lines)
        ≡ unless_fault (option_or (cond u (Some (faults.Unsupported key)) (cond t (Some (faults.Twice key)) None)) (first_fault (earlier ++ Entry key value ∷ []) lines)) (earlier ++ Entry key value ∷ lines)
    by true t e = refl
    by false true e = refl
    by false false e = onward earlier (Entry key value) (filled key value (places_of earlier)) lines (places-filled earlier key value e) rest
step earlier Malformed lines rest = refl

-- the lines behind earlier ones
scan_behind : (earlier lines : List Kind) → scan_from (length earlier + 1) (places_of earlier) lines ≡ unless_fault (first_fault earlier lines) (earlier ++ lines)
scan_behind earlier [] = ap (λ all. Ok (places_of all)) (sym (append-nil earlier))
scan_behind earlier (line ∷ lines) =
    step earlier line lines (scan_behind (earlier ++ line ∷ []) lines)

-- all lines, one after another
pub scan_is : (text : List ℕ) → entries text ≡ scan_from 1 none_yet (kinds_from 0 text)
unfolding entries kinds
scan_is text = sym (scan_behind [] (kinds_from 0 text))

-- the end of reading
read_is : (read : Result Places OmmFault) → read >>= (λ after. Ok after) ≡ read
read_is (Ok places) = refl
read_is (Err fault) = refl

-- reading goes on behind the first line, of which `read` is what was read
pub scan-at : (number from at : ℕ) (places : Places) (text : List ℕ) (line : Kind) (read : Result Places OmmFault) → position is_end text ≡ Some at → at < length text
    → line ≡ kind_of (record { from = from; bytes = take at text }) → read ≡ taken number places line
    → scan_from number places (kinds_from from text) ≡ read >>= (λ after. scan_from (number + 1) after (kinds_from (from + (at + 1)) (drop (at + 1) text)))
scan-at number from at places text line read e h is_line is_read = ap (scan_from number places) (kinds-at from text at e h) ∙ rw (is_read, is_line) refl

-- and ends with the last line
pub scan-whole : (number from : ℕ) (places : Places) (text : List ℕ) (line : Kind) (read : Result Places OmmFault) → position is_end text ≡ None
    → line ≡ kind_of (record { from = from; bytes = text }) → read ≡ taken number places line
    → scan_from number places (kinds_from from text) ≡ read
scan-whole number from places text line read e is_line is_read = ap (scan_from number places) (kinds-whole from text e) ∙ rw (← is_line, ← is_read) (read_is read)
