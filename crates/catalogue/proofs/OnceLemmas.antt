-- Each number once, in the order of first appearance, with one number more behind.
use Rattle.std.proofs.Common.{◌≡◌, ℕ, ◌==◌, Bool, true, false, cond, not, ◌||◌, List, [], ◌∷◌, ◌++◌, filter, refl, sym, ap, ◌∙◌}
use Rattle.std.proofs.lemmas.Bool.{eqb-true, eqb-false, eq-eqb, ne_eqb}
use Rattle.std.proofs.lemmas.List.{append-nil}
use Rattle.std.proofs.lemmas.List.Elements.{filter-append}
use Rattle.std.specs.List.{list_any}
use Rattle.catalogue.specs.Choice.{once_each}

-- the number is among these
abbrev pub among : ℕ → List ℕ → Bool
among k ns = list_any (λ n. k == n) ns

-- the numbers without one
abbrev without : ℕ → List ℕ → List ℕ
without n ns = filter (λ other. not (n == other)) ns

-- the number is there and no second time behind
abbrev pub once : ℕ → List ℕ → Bool
once k [] = false
once k (n ∷ ns) = cond (k == n) (not (among k ns)) (once k ns)

among_without : (k : ℕ) (ns : List ℕ) → among k (without k ns) ≡ false
among_without k [] = refl
among_without k (n ∷ ns) = by (k == n) refl (among_without k ns)
  where
    by : (b : Bool) → (k == n) ≡ b → among k (without k ns) ≡ false → among k (cond (not b) (n ∷ without k ns) (without k ns)) ≡ false
    by true e later = later
    by false e later = rw (e) later

-- where two numbers differ
apart : (k n m : ℕ) → (k == n) ≡ false → (n == m) ≡ true → (k == m) ≡ false
apart k n m e f = ap (λ x. k == x) (sym (eqb-true n m f)) ∙ e

among_other : (k n : ℕ) (ns : List ℕ) → (k == n) ≡ false → among k (without n ns) ≡ among k ns
among_other k n [] other = refl
among_other k n (m ∷ ns) other = by (n == m) refl (among_other k n ns other)
  where
    by : (b : Bool) → (n == m) ≡ b → among k (without n ns) ≡ among k ns → among k (cond (not b) (m ∷ without n ns) (without n ns)) ≡ ((k == m) || among k ns)
    by true e later = rw (apart k n m other e) later
    by false e later = rw (later) refl

once_other : (k n : ℕ) (ns : List ℕ) → (k == n) ≡ false → once k (without n ns) ≡ once k ns
once_other k n [] other = refl
once_other k n (m ∷ ns) other = by (n == m) refl (once_other k n ns other)
  where
    by : (b : Bool) → (n == m) ≡ b → once k (without n ns) ≡ once k ns → once k (cond (not b) (m ∷ without n ns) (without n ns)) ≡ cond (k == m) (not (among k ns)) (once k ns)
    by true e later = rw (apart k n m other e) later
    by false e later = rw (later, among_other k n ns other) refl

-- each number is there once
pub once_is : (k : ℕ) (ns : List ℕ) → once k (once_each ns) ≡ among k ns
once_is k [] = refl
once_is k (n ∷ ns) = by (k == n) refl (once_is k ns)
  where
    by : (b : Bool) → (k == n) ≡ b → once k (once_each ns) ≡ among k ns
        → cond b (not (among k (without n (once_each ns)))) (once k (without n (once_each ns))) ≡ (b || among k ns)
    by true e later = ap not (ap (λ m. among k (without m (once_each ns))) (sym (eqb-true k n e)) ∙ among_without k (once_each ns))
    by false e later = once_other k n (once_each ns) e ∙ later

-- and is not there where it was not before
pub among_is : (k : ℕ) (ns : List ℕ) → among k (once_each ns) ≡ among k ns
among_is k [] = refl
among_is k (n ∷ ns) = by (k == n) refl (among_is k ns)
  where
    by : (b : Bool) → (k == n) ≡ b → among k (once_each ns) ≡ among k ns → (b || among k (without n (once_each ns))) ≡ (b || among k ns)
    by true e later = refl
    by false e later = among_other k n (once_each ns) e ∙ later

without-push : (n k : ℕ) (ns : List ℕ) (b : Bool) → (n == k) ≡ b → without n (ns ++ k ∷ []) ≡ without n ns ++ cond (not b) (k ∷ []) []
without-push n k ns b e = filter-append (λ other. not (n == other)) ns (k ∷ []) ∙ ap (λ c. without n ns ++ cond (not c) (k ∷ []) []) e

-- one number more behind
pub once_each-push : (k : ℕ) (ns : List ℕ) → once_each (ns ++ k ∷ []) ≡ cond (among k ns) (once_each ns) (once_each ns ++ k ∷ [])
once_each-push k [] = refl
once_each-push k (n ∷ ns) = ap (λ r. n ∷ without n r) (once_each-push k ns) ∙ by (among k ns) (k == n) refl
  where
    by : (there same : Bool) → (k == n) ≡ same → n ∷ without n (cond there (once_each ns) (once_each ns ++ k ∷ []))
        ≡ cond (same || there) (n ∷ without n (once_each ns)) (n ∷ without n (once_each ns) ++ k ∷ [])
    by true true e = refl
    by true false e = refl
    by false true e = ap (λ r. n ∷ r) (without-push n k (once_each ns) true (eq-eqb n k (sym (eqb-true k n e))) ∙ append-nil (without n (once_each ns)))
    by false false e = ap (λ r. n ∷ r) (without-push n k (once_each ns) false (ne_eqb n k (λ h. eqb-false k n e (sym h))))
