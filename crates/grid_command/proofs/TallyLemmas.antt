-- Counts of lists one after another.
use Rattle.std.proofs.Common.{◌≡◌, arith, ℕ, ◌+◌, ◌<◌, ◌≤◌, ◌^◌, ◌-◌, List, [], ◌∷◌, ◌++◌, length, take, drop, get_or, ◌⊎◌, inl, inr, Bool, Some, None, sym, ap, ◌∙◌}
use Rattle.std.proofs.lemmas.List.{length-append, take-append-drop, take_all, take_more}
use Rattle.std.proofs.lemmas.List.Concat.{flat_map-append}
use Rattle.std.proofs.lemmas.List.Elements.{filter-append}
use Rattle.std.proofs.lemmas.List.Sums.{sum_by-append}
use Rattle.std.proofs.lemmas.Option.{get_or_from_slice_get, none-some, slice_get_cases, slice_get_within}
use Rattle.std.specs.List.{flat_map}
use Rattle.std.specs.Prelude.{cond, slice_get}
use Rattle.grid_command.specs.Tally.{Fits, answering, both, marked, tally_of, tally_of_spans, weight}
use Rattle.grid_command.specs.declared.tally.Tally.{Tally}
use Rattle.plan_text.specs.Plan.{RowRecord}
use Rattle.plan_text.specs.Summary.{is_decaying, is_full, is_hidden, is_undecided, is_unresolved, ticks_of}
use Rattle.plan_text.specs.Timetable.{is_visible}
use Rattle.run_ends.proofs.PrintedLemmas.{drop_at}
use Rattle.sgp4_model.specs.Records.{AnswerRecord}
use Rattle.sgp4_model.specs.declared.span.Mark.{Mark}
use Rattle.sgp4_model.specs.declared.span.Span.{Span}

-- marked spans of two lists
marked-append : (test : Mark → Bool) (xs ys : List Span) → marked test (xs ++ ys) ≡ marked test xs ++ marked test ys
marked-append test xs ys = filter-append (λ (span : Span). test span.mark) xs ys

many-append : (test : Mark → Bool) (xs ys : List Span) → length (marked test (xs ++ ys)) ≡ length (marked test xs) + length (marked test ys)
many-append test xs ys = ap length (marked-append test xs ys) ∙ length-append (marked test xs) (marked test ys)

ticks-append : (test : Mark → Bool) (xs ys : List Span) → ticks_of (marked test (xs ++ ys)) ≡ ticks_of (marked test xs) + ticks_of (marked test ys)
ticks-append test xs ys =
    ap ticks_of (marked-append test xs ys) ∙ sum_by-append (λ (span : Span). span.to - span.from) (marked test xs) (marked test ys)

pub spans-append : (xs ys : List Span) → tally_of_spans (xs ++ ys) ≡ both (tally_of_spans xs) (tally_of_spans ys)
spans-append xs ys = λ i. record {
  visible_spans = many-append is_visible xs ys i;
  visible_ticks = ticks-append is_visible xs ys i;
  hidden_spans = many-append is_hidden xs ys i;
  hidden_ticks = ticks-append is_hidden xs ys i;
  undecided_spans = many-append is_undecided xs ys i;
  undecided_ticks = ticks-append is_undecided xs ys i;
  unresolved = 0;
  full = 0;
  decays = 0;
}

-- rows of two lists
answering-append : (test : AnswerRecord → Bool) (xs ys : List RowRecord) → answering test (xs ++ ys) ≡ answering test xs + answering test ys
answering-append test xs ys = sum_by-append (λ (row : RowRecord). cond (test row.answer) 1 0) xs ys

pub rows-append : (xs ys : List RowRecord) → tally_of (xs ++ ys) ≡ both (tally_of xs) (tally_of ys)
rows-append xs ys =
    let list = λ (row : RowRecord). row.list in
    let spans : tally_of_spans (flat_map list (xs ++ ys)) ≡ both (tally_of_spans (flat_map list xs)) (tally_of_spans (flat_map list ys)) =
    ap tally_of_spans (flat_map-append list xs ys) ∙ spans-append (flat_map list xs) (flat_map list ys)
    in
    λ i. record (spans i) {
      unresolved = answering-append is_unresolved xs ys i;
      full = answering-append is_full xs ys i;
      decays = answering-append is_decaying xs ys i;
    }

-- the weights add up
pub weight-both : (a b : Tally) → weight (both a b) ≡ weight a + weight b
weight-both a b = omega arith

-- a place where nothing is lies behind the end
past : {A : Type 0} (xs : List A) (k : ℕ) → slice_get xs k ≡ None → length xs ≤ k
past {A = A} xs k e = by (slice_get_cases xs k).1
  where
    by : ((x : A) × (k < length xs) × (slice_get xs k ≡ Some x) × (get_or xs k x ≡ x)) ⊎ ((length xs ≤ k) × (slice_get xs k ≡ None)) → length xs ≤ k
    by (inl h) = absurd (none-some h.0 (sym e ∙ h.2))
    by (inr h) = h.0

-- ---- one more element at a time
-- the counts of two lists, one after the other, are the sums
pub record IsAdditive {A : Type 0} (counts : List A → Tally) : Type 0 where
  pub more : (xs ys : List A) → counts (xs ++ ys) ≡ both (counts xs) (counts ys)

pub spans_are : IsAdditive tally_of_spans
spans_are = record { more = spans-append }

pub rows_are : IsAdditive tally_of
rows_are = record { more = rows-append }

-- one more element is taken
pub take_push : {A : Type 0} (xs : List A) (k : ℕ) (x : A) → slice_get xs k ≡ Some x → take (k + 1) xs ≡ take k xs ++ x ∷ []
take_push xs k x e = take_more xs k x (slice_get_within xs k x e) ∙ ap (λ y. take k xs ++ y ∷ []) (get_or_from_slice_get xs k x x e)

-- the elements before a place, the one there, and those behind it
cut_at : {A : Type 0} (xs : List A) (k : ℕ) (x : A) → slice_get xs k ≡ Some x → xs ≡ take k xs ++ (x ∷ [] ++ drop (k + 1) xs)
cut_at xs k x e = sym (take-append-drop k xs) ∙ ap (λ t. take k xs ++ t) (drop_at xs k x e)

-- the weight of all is that of these three
weight_at : {A : Type 0} {counts : List A → Tally} → IsAdditive counts → (xs : List A) (k : ℕ) (x : A) → slice_get xs k ≡ Some x →
    weight (counts xs) ≡ weight (counts (take k xs)) + (weight (counts (x ∷ [])) + weight (counts (drop (k + 1) xs)))
weight_at {counts = counts} are xs k x e =
    let rest = drop (k + 1) xs in
    ap (λ t. weight (counts t)) (cut_at xs k x e)
    ∙ ap weight (are.more (take k xs) (x ∷ [] ++ rest))
    ∙ weight-both (counts (take k xs)) (counts (x ∷ [] ++ rest))
    ∙ ap (λ n. weight (counts (take k xs)) + n) (ap weight (are.more (x ∷ []) rest) ∙ weight-both (counts (x ∷ [])) (counts rest))

-- so there is room for the one at the place behind those before it
pub room : {A : Type 0} {counts : List A → Tally} → IsAdditive counts → (xs : List A) (k : ℕ) (x : A) → slice_get xs k ≡ Some x → Fits (counts xs) →
    (now one : Tally) → now ≡ counts (take k xs) → one ≡ counts (x ∷ []) → weight now + weight one < 2 ^ 64
room {counts = counts} are xs k x e fits now one h g =
    omega (arith, fits, weight_at are xs k x e, ap weight h, ap weight g)

-- and its own counts fit
pub part : {A : Type 0} {counts : List A → Tally} → IsAdditive counts → (xs : List A) (k : ℕ) (x : A) → slice_get xs k ≡ Some x → Fits (counts xs) → Fits (counts (x ∷ []))
part are xs k x e fits = omega (arith, fits, weight_at are xs k x e)

-- the counts so far, with those of the next one
pub step : {A : Type 0} {counts : List A → Tally} → IsAdditive counts → (xs : List A) (k : ℕ) (x : A) → slice_get xs k ≡ Some x →
    (now one : Tally) → now ≡ counts (take k xs) → one ≡ counts (x ∷ []) → both now one ≡ counts (take (k + 1) xs)
step {counts = counts} are xs k x e now one h g =
    (λ i. both (h i) (g i)) ∙ sym (are.more (take k xs) (x ∷ [])) ∙ ap counts (sym (take_push xs k x e))

-- those of all
pub whole : {A : Type 0} (counts : List A → Tally) (xs : List A) (k : ℕ) (now : Tally) → length xs ≤ k → now ≡ counts (take k xs) → now ≡ counts xs
whole counts xs k now all h = h ∙ ap counts (take_all k xs all)

-- where nothing is at a place nothing is behind it
pub nothing_more : {A : Type 0} (counts : List A → Tally) (xs : List A) (k : ℕ) (now : Tally) → slice_get xs k ≡ None → now ≡ counts (take k xs) → now ≡ counts (take (k + 1) xs)
nothing_more counts xs k now e h =
    let all = past xs k e in
    h ∙ ap counts (take_all k xs all ∙ sym (take_all (k + 1) xs (omega (arith, all))))
