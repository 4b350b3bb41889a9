-- The first line of a text, and those behind it.
use Rattle.std.proofs.Common.{◌≡◌, ℕ, suc, ◌+◌, ◌<◌, ◌≤◌, ◌==◌, arith, Bool, true, false, not, cond, List, [], ◌∷◌, ◌++◌, length, take, drop, None, Some, add-one, refl, ap, ◌∙◌, ltb}
use Rattle.std.proofs.Math.Seq.{take-suc}
use Rattle.std.proofs.lemmas.Bool.{eqb-true, ltb-true, ltb-false}
use Rattle.std.proofs.lemmas.List.Quantifiers.{position-Some}
use Rattle.std.specs.List.{position, position_or_len}
use Rattle.omm_kvn.specs.Lines.{begun, split}
use Rattle.tle_read.specs.TwoLine.{trimmed}
use Rattle.catalogue.specs.Place.{lines_at}
use Rattle.catalogue.specs.Lines.{numbered, written, behind, written_from}

-- the byte is a line feed
abbrev pub is_end : ℕ → Bool
is_end byte = byte == 10

split-by : (byte n : ℕ) (rest : List ℕ) (b : Bool) → (n < length rest → split rest ≡ take n rest ∷ split (drop (n + 1) rest))
    → cond (not b) (1 + n) 0 < length (byte ∷ rest)
    → cond b ([] ∷ split rest) (begun byte (split rest)) ≡ take (cond (not b) (1 + n) 0) (byte ∷ rest) ∷ split (drop (cond (not b) (1 + n) 0 + 1) (byte ∷ rest))
split-by byte n rest true ih h = refl
split-by byte n rest false ih h =
    let one : 1 + n ≡ suc n = omega arith in
    let two : 1 + n + 1 ≡ suc (n + 1) = omega arith in
    rw (two, one, ih (omega arith)) refl

-- the lines of a text with a line feed
split-at : (text : List ℕ) → position_or_len is_end text < length text
    → split text ≡ take (position_or_len is_end text) text ∷ split (drop (position_or_len is_end text + 1) text)
split-at [] h = absurd (omega arith)
split-at (byte ∷ rest) h = split-by byte (position_or_len is_end rest) rest (is_end byte) (split-at rest) h

whole-by : (byte n : ℕ) (rest : List ℕ) (b : Bool) → (length rest < n + 1 → split rest ≡ rest ∷ [])
    → length (byte ∷ rest) < cond (not b) (1 + n) 0 + 1 → cond b ([] ∷ split rest) (begun byte (split rest)) ≡ (byte ∷ rest) ∷ []
whole-by byte n rest true ih h = absurd (omega arith)
whole-by byte n rest false ih h = rw (ih (omega arith)) refl

-- the lines of a text without a line feed
split-whole : (text : List ℕ) → length text < position_or_len is_end text + 1 → split text ≡ text ∷ []
split-whole [] h = refl
split-whole (byte ∷ rest) h = whole-by byte (position_or_len is_end rest) rest (is_end byte) (split-whole rest) h

found : (b : Bool) (n at : ℕ) → cond b (Some n) None ≡ Some at → (b ≡ true) × (n ≡ at)
found true n at e = (refl, cc)
found false n at e = absurd cc

not_found : (b : Bool) (n : ℕ) → cond b (Some n) None ≡ None → b ≡ false
not_found true n e = absurd cc
not_found false n e = refl

split-found : (text : List ℕ) (n at : ℕ) → n ≡ at → split text ≡ take n text ∷ split (drop (n + 1) text) → split text ≡ take at text ∷ split (drop (at + 1) text)
split-found text n at e h = h ∙ ap (λ k. take k text ∷ split (drop (k + 1) text)) e

past : {n m : ℕ} → n ≤ m → n < m + 1
past h = omega arith

-- the lines of a text whose first line ends there
pub split-some : (at : ℕ) (text : List ℕ) → position is_end text ≡ Some at → split text ≡ take at text ∷ split (drop (at + 1) text)
split-some at text e =
    let place = found (ltb (position_or_len is_end text) (length text)) (position_or_len is_end text) at e in
    split-found text (position_or_len is_end text) at place.1 (split-at text (ltb-true _ _ place.0))

-- and of a text without a line feed
pub split-none : (text : List ℕ) → position is_end text ≡ None → split text ≡ text ∷ []
split-none text e = split-whole text (past (ltb-false _ _ (not_found _ _ e)))

-- the line and the line feed behind it
pub take-line : (at : ℕ) (text : List ℕ) → position is_end text ≡ Some at → take (at + 1) text ≡ take at text ++ 10 ∷ []
take-line at text e =
    let place = position-Some is_end text at 0 e in
    rw (add-one) (take-suc text at 0 place.0) ∙ ap (λ byte. take at text ++ byte ∷ []) (eqb-true _ _ place.1)

-- the written lines of a text whose first line ends there
pub written-at : (number at : ℕ) (text : List ℕ) → position is_end text ≡ Some at
    → written_from number text ≡ behind (record { number = number; text = trimmed (take at text) }) (written_from (number + 1) (drop (at + 1) text))
written-at number at text e = ap (λ lines. written (numbered number lines)) (split-some at text e)

-- and of a text without a line feed
pub written-whole : (number : ℕ) (text : List ℕ) → position is_end text ≡ None
    → written_from number text ≡ behind (record { number = number; text = trimmed text }) []
written-whole number text e = ap (λ lines. written (numbered number lines)) (split-none text e)

-- the lines from a place on, where a line feed ends the first
pub lines-at : (number : ℕ) (ended : Bool) (rest : List ℕ) (at : ℕ) (text next : List ℕ) → ended ≡ false → position is_end rest ≡ Some at
    → text ≡ trimmed (take at rest) → next ≡ drop (at + 1) rest
    → lines_at (record { number = number; ended = ended; rest = rest })
    ≡ behind (record { number = number; text = text }) (lines_at (record { number = number + 1; ended = ended; rest = next }))
lines-at number ended rest at text next going e is_text is_next = rw (going, is_text, is_next) (written-at number at rest e)

-- and where the first is the last
pub lines-whole : (number : ℕ) (ended : Bool) (rest text : List ℕ) → ended ≡ false → position is_end rest ≡ None → text ≡ trimmed rest
    → lines_at (record { number = number; ended = ended; rest = rest }) ≡ behind (record { number = number; text = text }) []
lines-whole number ended rest text going e is_text = rw (going, is_text) (written-whole number rest e)
