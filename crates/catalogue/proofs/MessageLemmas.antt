-- The messages of a text, from its first line on.
use Rattle.std.proofs.Common.{◌≡◌, ℕ, zero, suc, ◌+◌, ◌==◌, nat_lt, Bool, true, false, not, cond, List, [], ◌∷◌, ◌++◌, length, take, drop, None, Some, append_assoc, add_assoc, arith, refl, sym, ap, ◌∙◌}
use Rattle.std.proofs.Math.Seq.{take-add}
use Rattle.std.proofs.lemmas.Bool.{lt-ltb, ne_eqb}
use Rattle.std.proofs.lemmas.List.{drop-drop, take-append-drop}
use Rattle.std.specs.List.{position, join_with_byte}
use Rattle.omm_kvn.specs.Beginnings.{begins_message}
use Rattle.omm_kvn.specs.Lines.{begun, split}
use Rattle.catalogue.specs.MessageFile.{NumberedText, before_next, message_from, further_messages, messages_from, messages_among}
use Rattle.catalogue.specs.MessagePlace.{first_of, messages_at}
use Rattle.tle_read.specs.TwoLine.{trimmed}
use Rattle.catalogue.proofs.LineLemmas.{is_end, split-some, split-none, take-line}

-- the messages of lines, where the first one has these bytes before its line; the line has this number
abbrev pub grown : ℕ → List ℕ → ℕ → List (List ℕ) → List NumberedText
grown first done number [] = []
grown first done number (line ∷ lines) =
    record { number = first; text = done ++ join_with_byte 10 (line ∷ before_next lines) } ∷ further_messages (number + 1) lines

-- no bytes stand before the first line
pub grown-start : (number : ℕ) (lines : List (List ℕ)) → grown number [] number lines ≡ messages_from number lines
grown-start number [] = refl
grown-start number (line ∷ lines) = refl

-- the first line of a text
pub first_some : (at : ℕ) (text : List ℕ) → position is_end text ≡ Some at → take at text ≡ first_of (split text)
first_some at text e = sym (ap first_of (split-some at text e))

pub first_none : (text : List ℕ) → position is_end text ≡ None → text ≡ first_of (split text)
first_none text e = sym (ap first_of (split-none text e))

-- a text has a line
some_line : (text : List ℕ) → split text ≡ [] → ⊥
some_line [] h = cc
some_line (byte ∷ rest) h = by (byte == 10) (split rest) h
  where
    by : (b : Bool) (lines : List (List ℕ)) → cond b ([] ∷ lines) (begun byte lines) ≡ [] → ⊥
    by true lines h = cc
    by false [] h = cc
    by false (line ∷ lines) h = cc

-- the next line begins a message
next-begins : (first number : ℕ) (done line : List ℕ) (lines : List (List ℕ)) → begins_message (first_of lines) ≡ true
    → grown first done number (line ∷ lines) ≡ record { number = first; text = done ++ line } ∷ messages_from (number + 1) lines
next-begins first number done line [] e = refl
next-begins first number done line (next ∷ lines) e =
    ap (λ b. record { number = first; text = done ++ join_with_byte 10 (line ∷ cond b [] (next ∷ before_next lines)) }
    ∷ cond b (message_from (number + 1) next lines ∷ further_messages (number + 1 + 1) lines) (further_messages (number + 1 + 1) lines)) e

-- it begins none
next-goes_on : (first number : ℕ) (done line : List ℕ) (lines : List (List ℕ)) → (lines ≡ [] → ⊥) → begins_message (first_of lines) ≡ false
    → grown first done number (line ∷ lines) ≡ grown first (done ++ (line ++ 10 ∷ [])) (number + 1) lines
next-goes_on first number done line [] some e = absurd (some refl)
next-goes_on first number done line (next ∷ lines) some e =
    ap (λ b. record { number = first; text = done ++ join_with_byte 10 (line ∷ cond b [] (next ∷ before_next lines)) }
    ∷ cond b (message_from (number + 1) next lines ∷ further_messages (number + 1 + 1) lines) (further_messages (number + 1 + 1) lines)) e
    ∙ ap (λ text. record { number = first; text = text } ∷ further_messages (number + 1 + 1) lines)
    (ap (λ l. done ++ l) (sym (append_assoc line (10 ∷ []) (join_with_byte 10 (next ∷ before_next lines))))
    ∙ sym (append_assoc done (line ++ 10 ∷ []) (join_with_byte 10 (next ∷ before_next lines))))

-- a message ends at this line feed
pub grown-found : (first number at end : ℕ) (text rest behind line : List ℕ) → position is_end rest ≡ Some end → rest ≡ drop at text → behind ≡ drop (end + 1) rest
    → line ≡ first_of (split behind) → begins_message line ≡ true
    → grown first (take at text) number (split rest) ≡ record { number = first; text = take (at + end) text } ∷ messages_from (number + 1) (split (drop (at + end + 1) text))
grown-found first number at end text rest behind line e is_rest is_behind is_line begins =
    ap (grown first (take at text) number) (split-some end rest e)
    ∙ next-begins first number (take at text) (take end rest) (split (drop (end + 1) rest)) (ap begins_message (ap (λ b. first_of (split b)) (sym is_behind) ∙ sym is_line) ∙ begins)
    ∙ ap (λ done. record { number = first; text = done } ∷ messages_from (number + 1) (split (drop (end + 1) rest))) (ap (λ r. take at text ++ take end r) is_rest ∙ sym (take-add at end text))
    ∙ ap (λ r. record { number = first; text = take (at + end) text } ∷ messages_from (number + 1) (split r)) (ap (drop (end + 1)) is_rest ∙ drop-drop (end + 1) at text ∙ ap (λ n. drop n text) (sym (add_assoc at end 1)))

-- it goes on behind this line feed
pub grown-on : (first number at end : ℕ) (text rest behind line : List ℕ) → position is_end rest ≡ Some end → rest ≡ drop at text → behind ≡ drop (end + 1) rest
    → line ≡ first_of (split behind) → begins_message line ≡ false
    → grown first (take at text) number (split rest) ≡ grown first (take (at + (end + 1)) text) (number + 1) (split behind)
grown-on first number at end text rest behind line e is_rest is_behind is_line begins =
    ap (grown first (take at text) number) (split-some end rest e)
    ∙ next-goes_on first number (take at text) (take end rest) (split (drop (end + 1) rest)) (some_line (drop (end + 1) rest)) (ap begins_message (ap (λ b. first_of (split b)) (sym is_behind) ∙ sym is_line) ∙ begins)
    ∙ ap (λ done. grown first (take at text ++ done) (number + 1) (split (drop (end + 1) rest))) (sym (take-line end rest e) ∙ ap (take (end + 1)) is_rest)
    ∙ ap (λ done. grown first done (number + 1) (split (drop (end + 1) rest))) (sym (take-add at (end + 1) text))
    ∙ ap (λ b. grown first (take (at + (end + 1)) text) (number + 1) (split b)) (sym is_behind)

-- it goes on to the end of the text
pub grown-last : (first number at : ℕ) (text rest : List ℕ) → position is_end rest ≡ None → rest ≡ drop at text
    → grown first (take at text) number (split rest) ≡ record { number = first; text = text } ∷ []
grown-last first number at text rest e is_rest =
    ap (grown first (take at text) number) (split-none rest e)
    ∙ ap (λ whole. record { number = first; text = whole } ∷ []) (ap (λ r. take at text ++ r) is_rest ∙ take-append-drop at text)

is_some_length : (n : ℕ) → nat_lt 0 n ≡ not (n == 0)
is_some_length zero = refl
is_some_length (suc n) = lt-ltb 0 (suc n) (omega arith) ∙ ap not (sym (ne_eqb (suc n) 0 (λ h. absurd (omega (arith, h)))))

-- whether something is left of a line
written_is : (line text : List ℕ) (empty : Bool) → line ≡ trimmed text → empty ≡ (length line == 0) → nat_lt 0 (length (trimmed text)) ≡ not empty
written_is line text empty is_line is_empty = ap (λ l. nat_lt 0 (length l)) (sym is_line) ∙ is_some_length (length line) ∙ ap not (sym is_empty)

-- the messages of a text whose first line ends there
among-at : (number at : ℕ) (text line : List ℕ) (empty : Bool) → position is_end text ≡ Some at → line ≡ trimmed (take at text) → empty ≡ (length line == 0)
    → messages_among number (split text) ≡ cond (not empty) (messages_from number (split text)) (messages_among (number + 1) (split (drop (at + 1) text)))
among-at number at text line empty e is_line is_empty =
    ap (messages_among number) (split-some at text e)
    ∙ ap (λ b. cond b (messages_from number (take at text ∷ split (drop (at + 1) text))) (messages_among (number + 1) (split (drop (at + 1) text)))) (written_is line (take at text) empty is_line is_empty)
    ∙ ap (λ lines. cond (not empty) (messages_from number lines) (messages_among (number + 1) (split (drop (at + 1) text)))) (sym (split-some at text e))

-- a blank line begins nothing
pub among-blank : (number at : ℕ) (text line behind : List ℕ) (empty : Bool) → position is_end text ≡ Some at → line ≡ trimmed (take at text) → behind ≡ drop (at + 1) text
    → empty ≡ (length line == 0) → empty ≡ true → messages_among number (split text) ≡ messages_among (number + 1) (split behind)
among-blank number at text line behind empty e is_line is_behind is_empty blank =
    among-at number at text line empty e is_line is_empty
    ∙ ap (λ b. cond (not b) (messages_from number (split text)) (messages_among (number + 1) (split (drop (at + 1) text)))) blank
    ∙ ap (λ r. messages_among (number + 1) (split r)) (sym is_behind)

-- a written one begins a message
pub among-written : (number at : ℕ) (text line : List ℕ) (empty : Bool) → position is_end text ≡ Some at → line ≡ trimmed (take at text)
    → empty ≡ (length line == 0) → empty ≡ false → messages_among number (split text) ≡ messages_from number (split text)
among-written number at text line empty e is_line is_empty some =
    among-at number at text line empty e is_line is_empty
    ∙ ap (λ b. cond (not b) (messages_from number (split text)) (messages_among (number + 1) (split (drop (at + 1) text)))) some

-- and the last line too
pub among-last : (number : ℕ) (ended : Bool) (text line : List ℕ) → position is_end text ≡ None → line ≡ trimmed text → ended ≡ (length line == 0)
    → messages_at (record { number = number; ended = ended; rest = text }) ≡ messages_among number (split text)
among-last number ended text line e is_line is_ended =
    ap (λ lines. cond ended [] (messages_from number lines)) (split-none text e)
    ∙ by ended (written_is line text ended is_line is_ended)
    ∙ ap (messages_among number) (sym (split-none text e))
  where
    by : (b : Bool) → nat_lt 0 (length (trimmed text)) ≡ not b → cond b [] (messages_from number (text ∷ [])) ≡ messages_among number (text ∷ [])
    by true h = ap (λ c. cond c (messages_from number (text ∷ [])) []) (sym h)
    by false h = ap (λ c. cond c (messages_from number (text ∷ [])) []) (sym h)
