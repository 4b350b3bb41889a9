-- The lines of a row tell its answer and its spans, and what follows them.
use Rattle.std.proofs.Common.{◌≡◌, ◌≢◌, ℕ, ◌<◌, ◌≤◌, ◌^◌, ◌+◌, refl, sym, ap, ◌∙◌, arith, List, [], ◌∷◌, ◌++◌, length, drop, get_or, All, codes, decimal, ℤ}
use Rattle.std.specs.Prelude.{⊤}
use Rattle.std.proofs.lemmas.List.{append_assoc}
use Rattle.std.proofs.lemmas.List.Elements.{All-tail}
use Rattle.elements.specs.Window.{WindowRecord, IsWindow}
use Rattle.pass_text.specs.DayLayout.{tick_text, span_line}
use Rattle.sgp4_model.specs.declared.span.Mark.{Mark}
use Rattle.sgp4_model.specs.declared.span.Mark.TheVariants.{Yes, No, Undecided}
use Rattle.sgp4_model.specs.declared.span.Span.{Span}
use Rattle.plan_text.specs.Plan.{RowRecord, AnswerIsWithin, IsWithin, IsCounted, IsRow, most_spans}
use Rattle.plan_text.specs.RowLines.{unresolved_words, answer_words, lit_line, pair_line, lit_letter, pair_letter, span_lines, lines_after, lit_block, pair_block, pair_blocks}
use Rattle.sgp4_model.specs.Records.{AnswerRecord, spans, unresolved, full, decays}
use Rattle.layout_laws.proofs.FrontLemmas.{decimal-then}
use Rattle.layout_laws.proofs.LineLemmas.{flat_lit, flat_pair, flat_span}
use Rattle.layout_laws.proofs.TickLemmas.{tick-then}

-- the counts of an answer are of 32 bits
abbrev pub IsSmall : AnswerRecord → Type 0
IsSmall (spans count) = count < 2 ^ 64
IsSmall (unresolved from to) = ⊤
IsSmall (full at) = ⊤
IsSmall (decays at) = ⊤

-- the words of a stretch
flat_unresolved : (start : ℤ) (from to : ℕ) (t : List ℕ) → unresolved_words start from to ++ t ≡ codes "UNRESOLVED " ++ (tick_text start from ++ (32 ∷ (tick_text start to ++ t)))
unfolding unresolved_words
flat_unresolved start from to t = simp append_assoc refl

-- two stretches
unresolved-then : (w : WindowRecord) → IsWindow w → (a b c d : ℕ) (r s : List ℕ) → a ≤ w.ticks → b ≤ w.ticks → c ≤ w.ticks → d ≤ w.ticks → unresolved_words w.start a b ++ r ≡ unresolved_words w.start c d ++ s → (a ≡ c) × (b ≡ d) × (r ≡ s)
unresolved-then w h a b c d r s p q x y e =
    let flat = sym (flat_unresolved w.start a b r) ∙ e ∙ flat_unresolved w.start c d s in
    let from = tick-then w h a c _ _ p x (ap (drop 11) flat) in
    let to = tick-then w h b d r s q y (ap (drop 1) from.1) in
    (from.0, to.0, to.1)

-- an answer begins with a letter of its own
letter_of : AnswerRecord → ℕ
letter_of (spans count) = 83
letter_of (unresolved from to) = 85
letter_of (full at) = 70
letter_of (decays at) = 68

-- it stands first
letter_there : (start : ℤ) (answer : AnswerRecord) (r : List ℕ) → get_or (answer_words start answer ++ r) 0 0 ≡ letter_of answer
unfolding answer_words unresolved_words letter_of
letter_there start (spans count) r = refl
letter_there start (unresolved from to) r = refl
letter_there start (full at) r = refl
letter_there start (decays at) r = refl

-- the words of two answers that begin with one letter, at the end of their line
letters-then : (w : WindowRecord) → IsWindow w → (x y : AnswerRecord) (r s : List ℕ) → AnswerIsWithin w.ticks x → AnswerIsWithin w.ticks y → IsSmall x → IsSmall y → letter_of x ≡ letter_of y → answer_words w.start x ++ 10 ∷ r ≡ answer_words w.start y ++ 10 ∷ s → (x ≡ y) × (r ≡ s)
unfolding answer_words letter_of
letters-then w h (spans m) (spans n) r s p q small few same e =
    let parts = decimal-then m n 10 r s (omega arith) small few (ap (drop 6) e) in
    (ap spans parts.0, parts.1)
letters-then w h (spans m) (unresolved from to) r s p q small few same e = absurd (omega arith)
letters-then w h (spans m) (full at) r s p q small few same e = absurd (omega arith)
letters-then w h (spans m) (decays at) r s p q small few same e = absurd (omega arith)
letters-then w h (unresolved from to) (spans n) r s p q small few same e = absurd (omega arith)
letters-then w h (unresolved a b) (unresolved c d) r s p q small few same e =
    let parts = unresolved-then w h a b c d (10 ∷ r) (10 ∷ s) p.0 p.1 q.0 q.1 e in
    (rw (parts.0, parts.1) refl, ap (drop 1) parts.2)
letters-then w h (unresolved from to) (full at) r s p q small few same e = absurd (omega arith)
letters-then w h (unresolved from to) (decays at) r s p q small few same e = absurd (omega arith)
letters-then w h (full at) (spans n) r s p q small few same e = absurd (omega arith)
letters-then w h (full at) (unresolved from to) r s p q small few same e = absurd (omega arith)
letters-then w h (full a) (full b) r s p q small few same e =
    let parts = tick-then w h a b _ _ p q (ap (drop 5) e) in
    (ap full parts.0, ap (drop 1) parts.1)
letters-then w h (full at) (decays b) r s p q small few same e = absurd (omega arith)
letters-then w h (decays at) (spans n) r s p q small few same e = absurd (omega arith)
letters-then w h (decays at) (unresolved from to) r s p q small few same e = absurd (omega arith)
letters-then w h (decays at) (full b) r s p q small few same e = absurd (omega arith)
letters-then w h (decays a) (decays b) r s p q small few same e =
    let parts = tick-then w h a b _ _ p q (ap (drop 7) e) in
    (ap decays parts.0, ap (drop 1) parts.1)

-- the words of an answer, at the end of their line
pub answer-then : (w : WindowRecord) → IsWindow w → (x y : AnswerRecord) (r s : List ℕ) → AnswerIsWithin w.ticks x → AnswerIsWithin w.ticks y → IsSmall x → IsSmall y → answer_words w.start x ++ 10 ∷ r ≡ answer_words w.start y ++ 10 ∷ s → (x ≡ y) × (r ≡ s)
answer-then w h x y r s p q small few e =
    letters-then w h x y r s p q small few (sym (letter_there w.start x (10 ∷ r)) ∙ ap (λ t. get_or t 0 0) e ∙ letter_there w.start y (10 ∷ s)) e

-- three letters that differ
pub record AreLetters (letter : Mark → List ℕ) : Type 0 where
  pub yes : ℕ
  pub no : ℕ
  pub undecided : ℕ
  pub of_yes : letter Yes ≡ yes ∷ []
  pub of_no : letter No ≡ no ∷ []
  pub of_undecided : letter Undecided ≡ undecided ∷ []
  pub yes_no : yes ≢ no
  pub yes_undecided : yes ≢ undecided
  pub no_undecided : no ≢ undecided

-- those of light differ
pub lit_letters : AreLetters lit_letter
lit_letters = record { yes = 83; no = 68; undecided = 85; of_yes = refl; of_no = refl; of_undecided = refl; yes_no = λ e. omega arith; yes_undecided = λ e. omega arith; no_undecided = λ e. omega arith }

-- those of stations differ
pub pair_letters : AreLetters pair_letter
pair_letters = record { yes = 86; no = 72; undecided = 85; of_yes = refl; of_no = refl; of_undecided = refl; yes_no = λ e. omega arith; yes_undecided = λ e. omega arith; no_undecided = λ e. omega arith }

-- a letter alone, before whatever follows
byte-then : (x y : List ℕ) (a b : ℕ) (r s : List ℕ) → x ≡ a ∷ [] → y ≡ b ∷ [] → x ++ r ≡ y ++ s → (a ≡ b) × (r ≡ s)
byte-then x y a b r s p q e =
    let whole : a ∷ r ≡ b ∷ s = ap (λ t. t ++ r) (sym p) ∙ e ∙ ap (λ t. t ++ s) q in
    (ap (λ t. get_or t 0 0) whole, ap (drop 1) whole)

-- two letters
letter-then : (letter : Mark → List ℕ) → AreLetters letter → (m n : Mark) (r s : List ℕ) → letter m ++ r ≡ letter n ++ s → (m ≡ n) × (r ≡ s)
letter-then letter h Yes Yes r s e = (refl, (byte-then _ _ _ _ r s h.of_yes h.of_yes e).1)
letter-then letter h Yes No r s e = absurd (h.yes_no (byte-then _ _ _ _ r s h.of_yes h.of_no e).0)
letter-then letter h Yes Undecided r s e = absurd (h.yes_undecided (byte-then _ _ _ _ r s h.of_yes h.of_undecided e).0)
letter-then letter h No Yes r s e = absurd (h.yes_no (sym (byte-then _ _ _ _ r s h.of_no h.of_yes e).0))
letter-then letter h No No r s e = (refl, (byte-then _ _ _ _ r s h.of_no h.of_no e).1)
letter-then letter h No Undecided r s e = absurd (h.no_undecided (byte-then _ _ _ _ r s h.of_no h.of_undecided e).0)
letter-then letter h Undecided Yes r s e = absurd (h.yes_undecided (sym (byte-then _ _ _ _ r s h.of_undecided h.of_yes e).0))
letter-then letter h Undecided No r s e = absurd (h.no_undecided (sym (byte-then _ _ _ _ r s h.of_undecided h.of_no e).0))
letter-then letter h Undecided Undecided r s e = (refl, (byte-then _ _ _ _ r s h.of_undecided h.of_undecided e).1)

-- spans of equal parts are equal
same_span : (x y : Span) → x.mark ≡ y.mark → x.from ≡ y.from → x.to ≡ y.to → x ≡ y
same_span x y p q r = λ i. record { mark = p i; from = q i; to = r i }

-- two lines of spans
pub span-then : (letter : Mark → List ℕ) → AreLetters letter → (w : WindowRecord) → IsWindow w → (x y : Span) (r s : List ℕ) → IsWithin w.ticks x → IsWithin w.ticks y → span_line (letter x.mark) w.start x ++ r ≡ span_line (letter y.mark) w.start y ++ s → (x ≡ y) × (r ≡ s)
span-then letter l w h x y r s p q e =
    let mark = letter-then letter l x.mark y.mark _ _ (sym (flat_span (letter x.mark) w.start x r) ∙ e ∙ flat_span (letter y.mark) w.start y s) in
    let from = tick-then w h x.from y.from _ _ p.from q.from (ap (drop 1) mark.1) in
    let to = tick-then w h x.to y.to _ _ p.to q.to (ap (drop 1) from.1) in
    (same_span x y mark.0 from.0 to.0, ap (drop 1) to.1)

-- so many spans
pub spans-then : (letter : Mark → List ℕ) → AreLetters letter → (w : WindowRecord) → IsWindow w → (xs ys : List Span) (r s : List ℕ) → length xs ≡ length ys → All (IsWithin w.ticks) xs → All (IsWithin w.ticks) ys → span_lines letter w.start xs ++ r ≡ span_lines letter w.start ys ++ s → (xs ≡ ys) × (r ≡ s)
spans-then letter l w h [] [] r s len p q e = (refl, e)
spans-then letter l w h [] (y ∷ ys) r s len p q e = absurd (omega arith)
spans-then letter l w h (x ∷ xs) [] r s len p q e = absurd (omega arith)
spans-then letter l w h (x ∷ xs) (y ∷ ys) r s len p q e =
    let first = span-then letter l w h x y _ _ (p 0 x (omega arith)) (q 0 y (omega arith)) (sym (append_assoc (span_line (letter x.mark) w.start x) (span_lines letter w.start xs) r) ∙ e ∙ append_assoc (span_line (letter y.mark) w.start y) (span_lines letter w.start ys) s) in
    let rest = spans-then letter l w h xs ys r s (omega arith) (All-tail (IsWithin w.ticks) x xs p) (All-tail (IsWithin w.ticks) y ys q) first.1 in
    (rw (first.0, rest.0) refl, rest.1)

-- the lines after an answer
after-then : (letter : Mark → List ℕ) → AreLetters letter → (w : WindowRecord) → IsWindow w → (answer : AnswerRecord) (xs ys : List Span) (r s : List ℕ) → IsCounted answer xs → IsCounted answer ys → All (IsWithin w.ticks) xs → All (IsWithin w.ticks) ys → lines_after letter w.start answer xs ++ r ≡ lines_after letter w.start answer ys ++ s → (xs ≡ ys) × (r ≡ s)
after-then letter l w h (spans count) xs ys r s c d p q e = spans-then letter l w h xs ys r s (sym c ∙ d) p q e
after-then letter l w h (unresolved from to) xs ys r s c d p q e = (c ∙ sym d, e)
after-then letter l w h (full at) xs ys r s c d p q e = (c ∙ sym d, e)
after-then letter l w h (decays at) xs ys r s c d p q e = (c ∙ sym d, e)

-- a count of the spans of a row is small
small : (answer : AnswerRecord) (list : List Span) → IsCounted answer list → length list ≤ most_spans → IsSmall answer
small (spans count) list c h = omega arith
small (unresolved from to) list c h = tt
small (full at) list c h = tt
small (decays at) list c h = tt

-- rows of equal parts are equal
same_row : (x y : RowRecord) → x.answer ≡ y.answer → x.list ≡ y.list → x ≡ y
same_row x y p q = λ i. record { answer = p i; list = q i }

-- the lines of a row from its answer on
row-then : (letter : Mark → List ℕ) → AreLetters letter → (w : WindowRecord) → IsWindow w → (x y : RowRecord) (r s : List ℕ) → IsRow w.ticks x → IsRow w.ticks y → answer_words w.start x.answer ++ 10 ∷ (lines_after letter w.start x.answer x.list ++ r) ≡ answer_words w.start y.answer ++ 10 ∷ (lines_after letter w.start y.answer y.list ++ s) → (x ≡ y) × (r ≡ s)
row-then letter l w h x y r s p q e =
    let answer = answer-then w h x.answer y.answer _ _ p.answer q.answer (small x.answer x.list p.counted p.most) (small y.answer y.list q.counted q.most) e in
    let turned : lines_after letter w.start y.answer x.list ++ r ≡ lines_after letter w.start y.answer y.list ++ s = rw answer.0 at answer.1 in
    let list = after-then letter l w h y.answer x.list y.list r s (rw answer.0 at p.counted) q.counted p.spans q.spans turned in
    (same_row x y answer.0 list.0, list.1)

-- two rows of light
pub lit_block-then : (w : WindowRecord) → IsWindow w → (n : ℕ) (x y : RowRecord) (r s : List ℕ) → n < 2 ^ 64 → IsRow w.ticks x → IsRow w.ticks y → lit_block w.start n x ++ r ≡ lit_block w.start n y ++ s → (x ≡ y) × (r ≡ s)
lit_block-then w h n x y r s few p q e =
    let flat = sym (flat x r) ∙ e ∙ flat y s in
    let number = decimal-then n n 32 _ _ (omega arith) few few (ap (drop 4) flat) in
    row-then lit_letter lit_letters w h x y r s p q number.1
  where
    flat : (z : RowRecord) (t : List ℕ) → lit_block w.start n z ++ t ≡ codes "LIT " ++ (decimal n ++ (32 ∷ (answer_words w.start z.answer ++ (10 ∷ (lines_after lit_letter w.start z.answer z.list ++ t)))))
    flat z t = append_assoc (lit_line w.start n z.answer) (lines_after lit_letter w.start z.answer z.list) t ∙ flat_lit w.start n z.answer (lines_after lit_letter w.start z.answer z.list ++ t)

-- two rows of a station
pub pair_block-then : (w : WindowRecord) → IsWindow w → (n k : ℕ) (x y : RowRecord) (r s : List ℕ) → n < 2 ^ 64 → k < 2 ^ 64 → IsRow w.ticks x → IsRow w.ticks y → pair_block w.start n k x ++ r ≡ pair_block w.start n k y ++ s → (x ≡ y) × (r ≡ s)
pair_block-then w h n k x y r s few low p q e =
    let flat = sym (flat x r) ∙ e ∙ flat y s in
    let number = decimal-then n n 32 _ _ (omega arith) few few (ap (drop 5) flat) in
    let index = decimal-then k k 32 _ _ (omega arith) low low number.1 in
    row-then pair_letter pair_letters w h x y r s p q index.1
  where
    flat : (z : RowRecord) (t : List ℕ) → pair_block w.start n k z ++ t ≡ codes "PAIR " ++ (decimal n ++ (32 ∷ (decimal k ++ (32 ∷ (answer_words w.start z.answer ++ (10 ∷ (lines_after pair_letter w.start z.answer z.list ++ t)))))))
    flat z t = append_assoc (pair_line w.start n k z.answer) (lines_after pair_letter w.start z.answer z.list) t ∙ flat_pair w.start n k z.answer (lines_after pair_letter w.start z.answer z.list ++ t)

-- so many rows of stations
pub pair_blocks-then : (w : WindowRecord) → IsWindow w → (n k : ℕ) (xs ys : List RowRecord) (r s : List ℕ) → n < 2 ^ 64 → k + length xs < 2 ^ 64 → length xs ≡ length ys → All (IsRow w.ticks) xs → All (IsRow w.ticks) ys → pair_blocks w.start n k xs ++ r ≡ pair_blocks w.start n k ys ++ s → (xs ≡ ys) × (r ≡ s)
pair_blocks-then w h n k [] [] r s few low len p q e = (refl, e)
pair_blocks-then w h n k [] (y ∷ ys) r s few low len p q e = absurd (omega arith)
pair_blocks-then w h n k (x ∷ xs) [] r s few low len p q e = absurd (omega arith)
pair_blocks-then w h n k (x ∷ xs) (y ∷ ys) r s few low len p q e =
    let first = pair_block-then w h n k x y _ _ few (omega arith) (p 0 x (omega arith)) (q 0 y (omega arith)) (sym (append_assoc (pair_block w.start n k x) (pair_blocks w.start n (k + 1) xs) r) ∙ e ∙ append_assoc (pair_block w.start n k y) (pair_blocks w.start n (k + 1) ys) s) in
    let rest = pair_blocks-then w h n (k + 1) xs ys r s few (omega arith) (omega arith) (All-tail (IsRow w.ticks) x xs p) (All-tail (IsRow w.ticks) y ys q) first.1 in
    (rw (first.0, rest.0) refl, rest.1)
