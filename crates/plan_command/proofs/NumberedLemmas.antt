-- A line for each element of a list, with its number, printed one after the other; and places past the end.
use Rattle.std.proofs.Common.{◌≡◌, refl, arith, ℕ, ◌+◌, ◌≤◌, List, [], ◌∷◌, ◌++◌, ◌⊎◌, inl, inr, length, drop, get_or, None, Some, sym, subst, ap, ◌∙◌, append_assoc, zero-add}
use Rattle.std.proofs.lemmas.List.{append-nil}
use Rattle.std.proofs.lemmas.Option.{none-some, slice_get_cases}
use Rattle.std.proofs.Math.ListN.{drop_of_length-le}
use Rattle.std.specs.Prelude.{◌<◌, slice_get}
use Rattle.outside_io.specs.declared.sink.Sink.{Ghosts}
use Rattle.outside_io.proofs.Puts.{grew_nothing}
use Rattle.run_ends.specs.Printed.{IsCutOff, IsWhole}
use Rattle.run_ends.proofs.PrintedLemmas.{AreLines, IsPrintedTo, cut_first, cut_second, drop_at, whole_then}

-- the lines of a list are those of its elements with their numbers, one after the other
pub record AreNumbered {A : Type 0} (line : ℕ → A → List ℕ) (lines : ℕ → List A → List ℕ) : Type 0 where
  pub none : (n : ℕ) → lines n [] ≡ []
  pub more : (n : ℕ) (x : A) (rest : List A) → lines n (x ∷ rest) ≡ line n x ++ lines (n + 1) rest

-- a text was written which the lines of the elements from place k on complete, where the first element has this number
pub record IsPrintedFrom {A B : Type 0} (K : Ghosts B) (lines : ℕ → List A → List ℕ) (first : ℕ) (old now : B) (xs : List A) (k : ℕ) : Type 0 where
  pub text : List ℕ
  pub whole : IsWhole K old now text
  pub rest : text ++ lines (k + first) (drop k xs) ≡ lines first xs

-- before the first element
pub none_printed : {A B : Type 0} (K : Ghosts B) (lines : ℕ → List A → List ℕ) (first : ℕ) (o : B) (xs : List A) → IsPrintedFrom K lines first o o xs 0
none_printed K lines first o xs =
    record { text = []; whole = record { grew = grew_nothing (K.written o); kept = refl }; rest = ap (λ n. lines n xs) (zero-add first) }

-- the lines from a place on are that of the element there and the others
numbered_at : {A : Type 0} {line : ℕ → A → List ℕ} {lines : ℕ → List A → List ℕ} → AreNumbered line lines → (xs : List A) (k n : ℕ) (x : A) → slice_get xs k ≡ Some x → lines n (drop k xs) ≡ line n x ++ lines (n + 1) (drop (k + 1) xs)
numbered_at {lines = lines} are xs k n x e = ap (lines n) (drop_at xs k x e) ∙ are.more n x (drop (k + 1) xs)

-- after one more
pub one_more : {A B : Type 0} {K : Ghosts B} {line : ℕ → A → List ℕ} {lines : ℕ → List A → List ℕ} {first : ℕ} {o p q : B} {xs : List A} {k : ℕ} →
    AreNumbered line lines → (x : A) → slice_get xs k ≡ Some x →
    IsPrintedFrom K lines first o p xs k → IsWhole K p q (line (k + first) x) → IsPrintedFrom K lines first o q xs (k + 1)
one_more {line = line} {lines} {first} {xs = xs} {k} are x e h w =
    let next : k + 1 + first ≡ k + first + 1 = omega arith in
    record {
      text = h.text ++ line (k + first) x;
      whole = whole_then h.text _ h.whole w;
      rest =
          ap (λ n. (h.text ++ line (k + first) x) ++ lines n (drop (k + 1) xs)) next
          ∙ append_assoc h.text _ (lines (k + first + 1) (drop (k + 1) xs)) ∙ ap (λ t. h.text ++ t) (sym (numbered_at are xs k (k + first) x e)) ∙ h.rest;
    }

-- where the next one was cut off
pub one_cut : {A B : Type 0} {K : Ghosts B} {line : ℕ → A → List ℕ} {lines : ℕ → List A → List ℕ} {first : ℕ} {o p q : B} {xs : List A} {k : ℕ} →
    AreNumbered line lines → (x : A) → slice_get xs k ≡ Some x →
    IsPrintedFrom K lines first o p xs k → IsCutOff K p q (line (k + first) x) → IsCutOff K o q (lines first xs)
one_cut {K = K} {line} {lines} {first} {o} {q = q} {xs} {k} are x e h w =
    subst (IsCutOff K o q) (ap (λ t. h.text ++ t) (sym (numbered_at are xs k (k + first) x e)) ∙ h.rest)
    (cut_second h.text _ h.whole (cut_first _ (lines (k + first + 1) (drop (k + 1) xs)) w))

-- after the last one
pub each_printed : {A B : Type 0} {K : Ghosts B} {line : ℕ → A → List ℕ} {lines : ℕ → List A → List ℕ} {first : ℕ} {o p : B} {xs : List A} {k : ℕ} →
    AreNumbered line lines → length xs ≤ k → IsPrintedFrom K lines first o p xs k → IsWhole K o p (lines first xs)
each_printed {K = K} {lines = lines} {first} {o} {p} {xs} {k} are l h =
    subst (IsWhole K o p) (sym (append-nil h.text) ∙ ap (λ t. h.text ++ t) (sym (are.none (k + first)) ∙ ap (lines (k + first)) (sym (drop_of_length-le xs l))) ∙ h.rest) h.whole

-- ---- places past the end
-- where nothing is there the list is at its end
past : {A : Type 0} (xs : List A) (k : ℕ) → slice_get xs k ≡ None → length xs ≤ k
past {A = A} xs k e = by (slice_get_cases xs k).1
  where
    by : ((x : A) × (k < length xs) × (slice_get xs k ≡ Some x) × (get_or xs k x ≡ x)) ⊎ ((length xs ≤ k) × (slice_get xs k ≡ None)) → length xs ≤ k
    by (inl h) = absurd (none-some _ (sym e ∙ h.2))
    by (inr h) = h.0

-- so no line is missing there
pub nothing_more : {A B : Type 0} {K : Ghosts B} {line : ℕ → A → List ℕ} {lines : ℕ → List A → List ℕ} {first : ℕ} {o p : B} {xs : List A} {k : ℕ} →
    AreNumbered line lines → slice_get xs k ≡ None → IsPrintedFrom K lines first o p xs k → IsPrintedFrom K lines first o p xs (k + 1)
nothing_more {lines = lines} {first} {xs = xs} {k} are e h =
    let l = past xs k e in
    let m : length xs ≤ k + 1 = omega (arith, l) in
    record {
      text = h.text;
      whole = h.whole;
      rest =
          ap (λ t. h.text ++ t) (ap (lines (k + 1 + first)) (drop_of_length-le xs m) ∙ are.none (k + 1 + first) ∙ sym (are.none (k + first)) ∙ ap (lines (k + first)) (sym (drop_of_length-le xs l)))
          ∙ h.rest;
    }

-- likewise for lines without a number
pub nothing_next : {A B : Type 0} {K : Ghosts B} {line : A → List ℕ} {lines : List A → List ℕ} {o p : B} {xs : List A} {k : ℕ} →
    AreLines line lines → slice_get xs k ≡ None → IsPrintedTo K lines o p xs k → IsPrintedTo K lines o p xs (k + 1)
nothing_next {lines = lines} {xs = xs} {k} are e h =
    let l = past xs k e in
    let m : length xs ≤ k + 1 = omega (arith, l) in
    record {
      text = h.text;
      whole = h.whole;
      rest = ap (λ t. h.text ++ lines t) (drop_of_length-le xs m ∙ sym (drop_of_length-le xs l)) ∙ h.rest;
    }
