-- What is printed of daylight tells it.
use Rattle.std.proofs.Common.{◌≡◌, ℕ, refl, sym, ap, ◌∙◌, arith, List, [], ◌∷◌, ◌++◌, length, drop, get_or, All, codes, ℤ, subst}
use Rattle.std.proofs.lemmas.List.{append_assoc}
use Rattle.std.proofs.lemmas.List.Elements.{All-tail}
use Rattle.elements.specs.Window.{WindowRecord, IsWindow}
use Rattle.pass_text.specs.DayLayout.{tick_text, span_line, unresolved_line, full_line, day_letter, day_span_lines, day_answer_lines}
use Rattle.plan_text.specs.Plan.{IsWithin}
use Rattle.sgp4_model.specs.Records.{AnswerRecord, spans, unresolved, full, decays}
use Rattle.sgp4_model.specs.declared.span.Mark.{Mark}
use Rattle.sgp4_model.specs.declared.span.Mark.TheVariants.{Yes, No, Undecided}
use Rattle.sgp4_model.specs.declared.span.Span.{Span}
use Rattle.layout_laws.specs.DayLaw.{DayAnswerIsWithin, DayIsCounted, LayoutsTellDays}
use Rattle.layout_laws.proofs.LineLemmas.{window-then}
use Rattle.layout_laws.proofs.RowLemmas.{AreLetters, span-then}
use Rattle.layout_laws.proofs.TickLemmas.{tick-then}

-- the letters of daylight differ
day_letters : AreLetters day_letter
day_letters = record { yes = 76; no = 78; undecided = 85; of_yes = refl; of_no = refl; of_undecided = refl; yes_no = λ e. omega arith; yes_undecided = λ e. omega arith; no_undecided = λ e. omega arith }

-- the last line
abbrev last_line : List ℕ
last_line = codes "END\n"

-- the second byte of a span's line is a blank
blank : (mark : Mark) (start : ℤ) (span : Span) (r : List ℕ) → get_or (span_line (day_letter mark) start span ++ r) 1 0 ≡ 32
unfolding span_line
blank Yes start span r = refl
blank No start span r = refl
blank Undecided start span r = refl

-- so is that of several lines
blank_first : (start : ℤ) (span : Span) (rest : List Span) → get_or (day_span_lines start (span ∷ rest) ++ last_line) 1 0 ≡ 32
blank_first start span rest = rw append_assoc (blank span.mark start span _)

-- the second byte of another line is none
second_of_unresolved : (start : ℤ) (from to : ℕ) (r : List ℕ) → get_or (unresolved_line start from to ++ r) 1 0 ≡ 78
unfolding unresolved_line
second_of_unresolved start from to r = refl

-- and the first byte
first_of_unresolved : (start : ℤ) (from to : ℕ) (r : List ℕ) → get_or (unresolved_line start from to ++ r) 0 0 ≡ 85
unfolding unresolved_line
first_of_unresolved start from to r = refl

-- that of a full answer
second_of_full : (start : ℤ) (at : ℕ) (r : List ℕ) → get_or (full_line start at ++ r) 1 0 ≡ 85
unfolding full_line
second_of_full start at r = refl

-- spans up to the last line
spans_up_to : (w : WindowRecord) → IsWindow w → (xs ys : List Span) → All (IsWithin w.ticks) xs → All (IsWithin w.ticks) ys → day_span_lines w.start xs ++ last_line ≡ day_span_lines w.start ys ++ last_line → xs ≡ ys
spans_up_to w h [] [] p q e = refl
spans_up_to w h [] (y ∷ ys) p q e = absurd (omega (arith, ap (λ t. get_or t 1 0) e, blank_first w.start y ys))
spans_up_to w h (x ∷ xs) [] p q e = absurd (omega (arith, ap (λ t. get_or t 1 0) e, blank_first w.start x xs))
spans_up_to w h (x ∷ xs) (y ∷ ys) p q e =
    let first = span-then day_letter day_letters w h x y _ _ (p 0 x (omega arith)) (q 0 y (omega arith)) (sym (append_assoc (span_line (day_letter x.mark) w.start x) (day_span_lines w.start xs) last_line) ∙ e ∙ append_assoc (span_line (day_letter y.mark) w.start y) (day_span_lines w.start ys) last_line) in
    let rest = spans_up_to w h xs ys (All-tail (IsWithin w.ticks) x xs p) (All-tail (IsWithin w.ticks) y ys q) first.1 in
    rw (first.0, rest) refl

-- spans are no other answer
spans_or_unresolved : (start : ℤ) (xs : List Span) (from to : ℕ) → day_span_lines start xs ++ last_line ≡ unresolved_line start from to ++ last_line → ⊥
spans_or_unresolved start [] from to e = omega (arith, ap (λ t. get_or t 0 0) e, first_of_unresolved start from to last_line)
spans_or_unresolved start (x ∷ xs) from to e = omega (arith, ap (λ t. get_or t 1 0) e, blank_first start x xs, second_of_unresolved start from to last_line)

-- nor a full one
spans_or_full : (start : ℤ) (xs : List Span) (at : ℕ) → day_span_lines start xs ++ last_line ≡ full_line start at ++ last_line → ⊥
spans_or_full start [] at e = omega (arith, ap (λ t. get_or t 1 0) e, second_of_full start at last_line)
spans_or_full start (x ∷ xs) at e = omega (arith, ap (λ t. get_or t 1 0) e, blank_first start x xs, second_of_full start at last_line)

-- and a stretch is no full answer
unresolved_or_full : (start : ℤ) (from to at : ℕ) → unresolved_line start from to ++ last_line ≡ full_line start at ++ last_line → ⊥
unresolved_or_full start from to at e = omega (arith, ap (λ t. get_or t 1 0) e, second_of_unresolved start from to last_line, second_of_full start at last_line)

-- the line of a stretch, a word after another
flat_unresolved : (start : ℤ) (from to : ℕ) (t : List ℕ) → unresolved_line start from to ++ t ≡ codes "UNRESOLVED " ++ (tick_text start from ++ (32 ∷ (tick_text start to ++ (10 ∷ t))))
unfolding unresolved_line
flat_unresolved start from to t = simp append_assoc refl

-- that of a full answer
flat_full : (start : ℤ) (at : ℕ) (t : List ℕ) → full_line start at ++ t ≡ codes "FULL " ++ (tick_text start at ++ (10 ∷ t))
unfolding full_line
flat_full start at t = simp append_assoc refl

-- two answers of one window
answers_then : (w : WindowRecord) → IsWindow w → (x y : AnswerRecord) (xs ys : List Span) → DayAnswerIsWithin w.ticks x → DayAnswerIsWithin w.ticks y → DayIsCounted x xs → DayIsCounted y ys → All (IsWithin w.ticks) xs → All (IsWithin w.ticks) ys → day_answer_lines w.start x xs ++ last_line ≡ day_answer_lines w.start y ys ++ last_line → (x ≡ y) × (xs ≡ ys)
answers_then w h (spans m) (spans n) xs ys p q c d u v e =
    let same = spans_up_to w h xs ys u v e in
    (ap spans (c ∙ ap length same ∙ sym d), same)
answers_then w h (spans m) (unresolved from to) xs ys p q c d u v e = absurd (spans_or_unresolved w.start xs from to e)
answers_then w h (spans m) (full at) xs ys p q c d u v e = absurd (spans_or_full w.start xs at e)
answers_then w h (unresolved from to) (spans n) xs ys p q c d u v e = absurd (spans_or_unresolved w.start ys from to (sym e))
answers_then w h (unresolved i j) (unresolved k l) xs ys p q c d u v e =
    let from = tick-then w h i k _ _ p.0 q.0 (ap (drop 11) (sym (flat_unresolved w.start i j last_line) ∙ e ∙ flat_unresolved w.start k l last_line)) in
    let to = tick-then w h j l _ _ p.1 q.1 (ap (drop 1) from.1) in
    (rw (from.0, to.0) refl, c ∙ sym d)
answers_then w h (unresolved from to) (full at) xs ys p q c d u v e = absurd (unresolved_or_full w.start from to at e)
answers_then w h (full at) (spans n) xs ys p q c d u v e = absurd (spans_or_full w.start ys at (sym e))
answers_then w h (full at) (unresolved from to) xs ys p q c d u v e = absurd (unresolved_or_full w.start from to at (sym e))
answers_then w h (full i) (full j) xs ys p q c d u v e =
    let at = tick-then w h i j _ _ p q (ap (drop 5) (sym (flat_full w.start i last_line) ∙ e ∙ flat_full w.start j last_line)) in
    (ap full at.0, c ∙ sym d)
answers_then w h (decays i) y xs ys p q c d u v e = absurd p
answers_then w h (spans m) (decays j) xs ys p q c d u v e = absurd q
answers_then w h (unresolved k l) (decays j) xs ys p q c d u v e = absurd q
answers_then w h (full i) (decays j) xs ys p q c d u v e = absurd q

-- the window tells what follows it, and that the answer
pub layouts_tell_days : LayoutsTellDays
layouts_tell_days v w x y xs ys h k e =
    let window = window-then v w _ _ h.window k.window (ap (drop 10) e) in
    let turned = subst (λ z. day_answer_lines v.start x xs ++ last_line ≡ day_answer_lines z.start y ys ++ last_line) (sym window.0) window.1 in
    let within = subst (λ z. DayAnswerIsWithin z.ticks y) (sym window.0) k.answer in
    let inside = subst (λ z. All (IsWithin z.ticks) ys) (sym window.0) k.each in
    let answers = answers_then v h.window x y xs ys h.answer within h.counted k.counted h.each inside turned in
    (window.0, answers.0, answers.1)
