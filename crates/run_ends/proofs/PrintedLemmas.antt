-- Texts printed one after the other, and a line for each element of a list.
use Rattle.std.proofs.Common.{◌≡◌, refl, arith, ℕ, suc, ◌+◌, ◌≤◌, ◌<◌, List, [], ◌∷◌, ◌++◌, length, drop, Option, None, Some, Result, Ok, Err, sym, subst, ap, ◌∙◌, append_assoc}
use Rattle.std.proofs.lemmas.List.{append-nil}
use Rattle.std.proofs.lemmas.Option.{get_or_from_slice_get, none-some, slice_get-get_or, slice_get_within}
use Rattle.std.proofs.Math.Seq.{drop-cons}
use Rattle.std.proofs.Math.ListN.{drop_of_length-le}
use Rattle.std.specs.Prelude.{IsErr, slice_get}
use Rattle.outside_io.specs.Counts.{Rose}
use Rattle.outside_io.specs.declared.sink.Sink.{Ghosts}
use Rattle.outside_io.proofs.Puts.{front_of_first, front_of_second, grew_nothing, grew_then}
use Rattle.run_ends.specs.Endings.{ended}
use Rattle.run_ends.specs.Printed.{IsCutOff, IsPrinted, IsWhole, IsWritten}

-- both were written
pub whole_then : {A : Type 0} {K : Ghosts A} {o p q : A} (xs ys : List ℕ) → IsWhole K o p xs → IsWhole K p q ys → IsWhole K o q (xs ++ ys)
whole_then {K = K} {o} {p} {q} xs ys h k =
    record { grew = grew_then (K.written o) (K.written p) (K.written q) xs ys h.grew k.grew; kept = k.kept ∙ h.kept }

-- the first was written, and the second was cut off
pub cut_second : {A : Type 0} {K : Ghosts A} {o p q : A} (xs ys : List ℕ) → IsWhole K o p xs → IsCutOff K p q ys → IsCutOff K o q (xs ++ ys)
cut_second {K = K} {o} {p} {q} xs ys h k = record {
  front = front_of_second (K.written o) (K.written p) (K.written q) xs ys h.grew k.front;
  rose = subst (λ n. Rose n (K.faults q)) h.kept k.rose;
  later = subst (λ n. n ≤ K.faults q) h.kept k.later;
}

-- the first was cut off
pub cut_first : {A : Type 0} {K : Ghosts A} {o p : A} (xs ys : List ℕ) → IsCutOff K o p xs → IsCutOff K o p (xs ++ ys)
cut_first {K = K} {o} {p} xs ys h = record { front = front_of_first (K.written o) (K.written p) xs ys h.front; rose = h.rose; later = h.later }

-- an answer that is a fault tells of a text that was cut off
pub failed : {A T E : Type 0} {K : Ghosts A} {o p : A} {xs : List ℕ} (answer : Result T E) → IsErr answer → IsCutOff K o p xs → IsPrinted K answer o p xs
failed (Ok done) is h = let no : ⊥ = cc in absurd no
failed (Err fault) is h = h

-- the first was written, and then the second was printed
pub printed_then : {A T E : Type 0} (K : Ghosts A) (answer : Result T E) (o p q : A) (xs ys : List ℕ) →
    IsWhole K o p xs → IsPrinted K answer p q ys → IsPrinted K answer o q (xs ++ ys)
printed_then K (Ok done) o p q xs ys h k = whole_then xs ys h k
printed_then K (Err fault) o p q xs ys h k = cut_second xs ys h k

-- a product that was printed is written so
pub ended_written : {A P T E : Type 0} (K : Ghosts A) (layout : P → List ℕ) (product : P) (answer : Result T E) (o p : A) →
    IsPrinted K answer o p (layout product) → IsWritten K layout (ended product answer) o p
ended_written K layout product (Ok done) o p h = h
ended_written K layout product (Err fault) o p h = h

-- ---- a line for each element
-- the lines of a list are those of its elements, one after the other
pub record AreLines {A : Type 0} (line : A → List ℕ) (lines : List A → List ℕ) : Type 0 where
  pub none : lines [] ≡ []
  pub more : (x : A) (rest : List A) → lines (x ∷ rest) ≡ line x ++ lines rest

-- a text was written which the lines of the elements from place k on complete
pub record IsPrintedTo {A B : Type 0} (K : Ghosts B) (lines : List A → List ℕ) (old now : B) (xs : List A) (k : ℕ) : Type 0 where
  pub text : List ℕ
  pub whole : IsWhole K old now text
  pub rest : text ++ lines (drop k xs) ≡ lines xs

-- before the first element
pub nothing_printed : {A B : Type 0} (K : Ghosts B) (lines : List A → List ℕ) (o : B) (xs : List A) → IsPrintedTo K lines o o xs 0
nothing_printed K lines o xs = record { text = []; whole = record { grew = grew_nothing (K.written o); kept = refl }; rest = refl }

-- the list from a place on begins with the element there
pub drop_at : {A : Type 0} (xs : List A) (k : ℕ) (x : A) → slice_get xs k ≡ Some x → drop k xs ≡ x ∷ drop (k + 1) xs
drop_at xs k x e =
    let inside = slice_get_within xs k x e in
    let next : suc k ≡ k + 1 = omega arith in
    drop-cons xs k x inside ∙ ap (λ t. t ∷ drop (suc k) xs) (get_or_from_slice_get xs k x x e) ∙ ap (λ n. x ∷ drop n xs) next

-- a place below the length has an element
pub something_there : {A : Type 0} (xs : List A) (k : ℕ) → k < length xs → slice_get xs k ≡ None → ⊥
something_there [] k h e = absurd (omega (arith, h))
something_there (x ∷ xs) k h e = none-some _ (sym e ∙ slice_get-get_or (x ∷ xs) k x h)

-- the lines from a place on are that of the element there and the others
lines_at : {A : Type 0} {line : A → List ℕ} {lines : List A → List ℕ} → AreLines line lines → (xs : List A) (k : ℕ) (x : A) → slice_get xs k ≡ Some x → lines (drop k xs) ≡ line x ++ lines (drop (k + 1) xs)
lines_at {lines = lines} are xs k x e = ap lines (drop_at xs k x e) ∙ are.more x (drop (k + 1) xs)

-- after one more
pub one_more_printed : {A B : Type 0} {K : Ghosts B} {line : A → List ℕ} {lines : List A → List ℕ} {o p q : B} {xs : List A} {k : ℕ} →
    AreLines line lines → (x : A) → slice_get xs k ≡ Some x →
    IsPrintedTo K lines o p xs k → IsWhole K p q (line x) → IsPrintedTo K lines o q xs (k + 1)
one_more_printed {line = line} {lines} {xs = xs} {k} are x e h w = record {
  text = h.text ++ line x;
  whole = whole_then h.text _ h.whole w;
  rest = append_assoc h.text _ (lines (drop (k + 1) xs)) ∙ ap (λ t. h.text ++ t) (sym (lines_at are xs k x e)) ∙ h.rest;
}

-- where the next one was cut off
pub next_cut : {A B : Type 0} {K : Ghosts B} {line : A → List ℕ} {lines : List A → List ℕ} {o p q : B} {xs : List A} {k : ℕ} →
    AreLines line lines → (x : A) → slice_get xs k ≡ Some x →
    IsPrintedTo K lines o p xs k → IsCutOff K p q (line x) → IsCutOff K o q (lines xs)
next_cut {K = K} {line} {lines} {o} {q = q} {xs} {k} are x e h w =
    subst (IsCutOff K o q) (ap (λ t. h.text ++ t) (sym (lines_at are xs k x e)) ∙ h.rest)
    (cut_second h.text _ h.whole (cut_first _ (lines (drop (k + 1) xs)) w))

-- after the last one
pub all_printed : {A B : Type 0} {K : Ghosts B} {line : A → List ℕ} {lines : List A → List ℕ} {o p : B} {xs : List A} {k : ℕ} →
    AreLines line lines → length xs ≤ k → IsPrintedTo K lines o p xs k → IsWhole K o p (lines xs)
all_printed {K = K} {lines = lines} {o} {p} {xs} {k} are l h =
    subst (IsWhole K o p) (sym (append-nil h.text) ∙ ap (λ t. h.text ++ t) (sym (are.none) ∙ ap lines (sym (drop_of_length-le xs l))) ∙ h.rest) h.whole
