-- The satellites of sets, with one set more behind them.
use Rattle.std.proofs.Common.{◌≡◌, ℕ, ◌==◌, Bool, true, false, cond, not, ◌||◌, List, [], ◌∷◌, ◌++◌, filter, filter_map, Option, None, Some, is_some, ℤ, refl, sym, ap, ◌∙◌}
use Rattle.std.proofs.lemmas.Bool.{and_from, both_ways, not-true, or_parts, eqb-true, eqb-false, eq-eqb, ne_eqb}
use Rattle.std.proofs.lemmas.List.{append-nil, map-append}
use Rattle.std.proofs.lemmas.List.Elements.{filter-append, filter_map-append}
use Rattle.std.specs.List.{list_all, cons_option}
use Rattle.catalogue.specs.declared.entry.Entry.{Entry}
use Rattle.catalogue.specs.Choice.{distance, once_each, sets_with, is_nearest, nearest, chosen_of}
use Rattle.catalogue.specs.Entries.{numbers}
use Rattle.catalogue.specs.Keeping.{is_nearer, with_set}
use Rattle.catalogue.proofs.NearestLemmas.{found_among, nearer, least-is_some, least-push}
use Rattle.catalogue.proofs.OnceLemmas.{among, once, once_is, among_is, once_each-push}

-- of two ways to take a set of each number, where the sets of one number have one more behind them
module _ (start : ℤ) (s : Entry) (f g : ℕ → Option Entry)
    (own : (n : ℕ) (e : Entry) → f n ≡ Some e → e.elements.number ≡ n)
    (same : (n : ℕ) → (s.elements.number == n) ≡ false → g n ≡ f n)
    (new : g s.elements.number ≡ Some (nearer (distance start) s (f s.elements.number))) where
  abbrev k : ℕ
  k = s.elements.number

  -- the other numbers have the sets that they had
  others : (ns : List ℕ) → among k ns ≡ false → filter_map g ns ≡ filter_map f ns
  others [] h = refl
  others (n ∷ ns) h =
      let parts = or_parts (k == n) (among k ns) h in
      rw (same n parts.0, others ns parts.1) refl

  passed : (e : Entry) (es : List Entry) → (k == e.elements.number) ≡ false → with_set start s (e ∷ es) ≡ e ∷ with_set start s es
  passed e es h = rw (h) refl

  behind_other : (n : ℕ) (found : Option Entry) (ns : List ℕ) (rest : List Entry) → f n ≡ found → (k == n) ≡ false → rest ≡ with_set start s (filter_map f ns)
      → cons_option found rest ≡ with_set start s (cons_option found (filter_map f ns))
  behind_other n None ns rest is other later = later
  behind_other n (Some e) ns rest is other later = ap (λ r. e ∷ r) later ∙ sym (passed e (filter_map f ns) (ap (λ m. k == m) (own n e is) ∙ other))

  at_same : (n : ℕ) (kept : Entry) (ns : List ℕ) → (k == n) ≡ true → f k ≡ Some kept → among k ns ≡ false
      → cons_option (g n) (filter_map g ns) ≡ with_set start s (cons_option (f n) (filter_map f ns))
  at_same n kept ns e found none =
      let is : k ≡ n = eqb-true k n e in
      let number : (k == kept.elements.number) ≡ true = eq-eqb _ _ (sym (own k kept found)) in
      ap (λ m. cons_option (g m) (filter_map g ns)) (sym is)
      ∙ rw (new, found, others ns none) refl
      ∙ ap (λ b. cond b (cond (is_nearer start s kept) s kept ∷ filter_map f ns) (kept ∷ with_set start s (filter_map f ns))) (sym number)
      ∙ ap (λ o. with_set start s (cons_option o (filter_map f ns))) (sym found ∙ ap f is)

  -- a number that is there once has its set in the place of the one that it had
  in_place : (kept : Entry) (ns : List ℕ) → f k ≡ Some kept → once k ns ≡ true → filter_map g ns ≡ with_set start s (filter_map f ns)
  in_place kept [] found h = absurd (both_ways false refl h)
  in_place kept (n ∷ ns) found h = by (k == n) refl h (in_place kept ns found)
    where
      by : (b : Bool) → (k == n) ≡ b → cond b (not (among k ns)) (once k ns) ≡ true
          → (once k ns ≡ true → filter_map g ns ≡ with_set start s (filter_map f ns))
          → filter_map g (n ∷ ns) ≡ with_set start s (filter_map f (n ∷ ns))
      by true e there later = at_same n kept ns e found (not-true _ there)
      by false e there later = ap (λ o. cons_option o (filter_map g ns)) (same n e) ∙ behind_other n (f n) ns (filter_map g ns) refl e (later there)

  -- a set of a new number goes behind
  behind_all : (ns : List ℕ) → f k ≡ None → with_set start s (filter_map f ns) ≡ filter_map f ns ++ s ∷ []
  behind_all [] none = refl
  behind_all (n ∷ ns) none = by (f n) refl (behind_all ns none)
    where
      by : (found : Option Entry) → f n ≡ found → with_set start s (filter_map f ns) ≡ filter_map f ns ++ s ∷ []
          → with_set start s (cons_option found (filter_map f ns)) ≡ cons_option found (filter_map f ns) ++ s ∷ []
      by None is later = later
      by (Some e) is later =
          passed e (filter_map f ns) (ne_eqb _ _ (λ h. is_other h)) ∙ ap (λ r. e ∷ r) later
        where
          is_other : k ≡ e.elements.number → ⊥
          is_other h = both_ways true (ap is_some (sym is ∙ ap f (sym (own n e is) ∙ sym h) ∙ none)) refl

all_filtered : (q : Entry → Bool) (sets : List Entry) → list_all q (filter q sets) ≡ true
all_filtered q [] = refl
all_filtered q (e ∷ es) = by (q e) refl (all_filtered q es)
  where
    by : (b : Bool) → q e ≡ b → list_all q (filter q es) ≡ true → list_all q (cond b (e ∷ filter q es) (filter q es)) ≡ true
    by true here later = and_from _ _ here later
    by false here later = later

-- the nearest set of a number has this number
nearest-number : (start : ℤ) (sets : List Entry) (n : ℕ) (e : Entry) → nearest start (sets_with n sets) ≡ Some e → e.elements.number ≡ n
nearest-number start sets n e found =
    let has : Entry → Bool = λ set. n == set.elements.number in
    sym (eqb-true n e.elements.number (found_among (is_nearest start (sets_with n sets)) has (sets_with n sets) e found (all_filtered has sets)))

-- the sets of a number that none has
no_sets : (k : ℕ) (sets : List Entry) → among k (numbers sets) ≡ false → sets_with k sets ≡ []
no_sets k [] h = refl
no_sets k (e ∷ es) h =
    let parts = or_parts (k == e.elements.number) (among k (numbers es)) h in
    ap (λ b. cond b (e ∷ sets_with k es) (sets_with k es)) parts.0 ∙ no_sets k es parts.1

nearest_there : (start : ℤ) (some : List Entry) → (some ≡ [] → ⊥) → (kept : Entry) × (nearest start some ≡ Some kept)
nearest_there start [] h = absurd (h refl)
nearest_there start (e ∷ es) h = by (nearest start (e ∷ es)) refl
  where
    by : (found : Option Entry) → nearest start (e ∷ es) ≡ found → (kept : Entry) × (nearest start (e ∷ es) ≡ Some kept)
    by None is = absurd (both_ways _ (ap is_some is) (least-is_some (distance start) e es))
    by (Some kept) is = (kept, is)

some_sets : (k : ℕ) (sets : List Entry) → among k (numbers sets) ≡ true → sets_with k sets ≡ [] → ⊥
some_sets k [] h none = both_ways false refl h
some_sets k (e ∷ es) h none = by (k == e.elements.number) refl h none (some_sets k es)
  where
    by : (b : Bool) → (k == e.elements.number) ≡ b → (b || among k (numbers es)) ≡ true → cond b (e ∷ sets_with k es) (sets_with k es) ≡ []
        → (among k (numbers es) ≡ true → sets_with k es ≡ [] → ⊥) → ⊥
    by true e there empty later = cc
    by false e there empty later = later there empty

-- the sets of a number, with one set more behind
sets_with-push : (n : ℕ) (sets : List Entry) (s : Entry) (b : Bool) → (n == s.elements.number) ≡ b → sets_with n (sets ++ s ∷ []) ≡ sets_with n sets ++ cond b (s ∷ []) []
sets_with-push n sets s b e = filter-append (λ set. n == set.elements.number) sets (s ∷ []) ∙ ap (λ c. sets_with n sets ++ cond c (s ∷ []) []) e

module _ (start : ℤ) (sets : List Entry) (s : Entry) where
  abbrev before : ℕ → Option Entry
  before n = nearest start (sets_with n sets)

  abbrev after : ℕ → Option Entry
  after n = nearest start (sets_with n (sets ++ s ∷ []))

  after-same : (n : ℕ) → (s.elements.number == n) ≡ false → after n ≡ before n
  after-same n other = ap (nearest start) (sets_with-push n sets s false (ne_eqb _ _ (λ h. eqb-false _ _ other (sym h))) ∙ append-nil (sets_with n sets))

  after-new : after s.elements.number ≡ Some (nearer (distance start) s (before s.elements.number))
  after-new = ap (nearest start) (sets_with-push s.elements.number sets s true (eq-eqb _ _ refl)) ∙ least-push (distance start) s (sets_with s.elements.number sets)

  pushed : (there : Bool) → among s.elements.number (numbers sets) ≡ there
      → filter_map after (cond there (once_each (numbers sets)) (once_each (numbers sets) ++ s.elements.number ∷ [])) ≡ with_set start s (filter_map before (once_each (numbers sets)))
  pushed true e =
      let kept = nearest_there start (sets_with s.elements.number sets) (some_sets s.elements.number sets e) in
      in_place start s before after (nearest-number start sets) after-same after-new kept.0 (once_each (numbers sets)) kept.1 (once_is s.elements.number (numbers sets) ∙ e)
  pushed false e =
      let none : before s.elements.number ≡ None = ap (nearest start) (no_sets s.elements.number sets e) in
      filter_map-append after (once_each (numbers sets)) (s.elements.number ∷ [])
      ∙ ap (λ r. r ++ filter_map after (s.elements.number ∷ [])) (others start s before after (nearest-number start sets) after-same after-new (once_each (numbers sets)) (among_is s.elements.number (numbers sets) ∙ e))
      ∙ ap (λ o. filter_map before (once_each (numbers sets)) ++ cons_option o []) (after-new ∙ ap (λ o. Some (nearer (distance start) s o)) none)
      ∙ sym (behind_all start s before after (nearest-number start sets) after-same after-new (once_each (numbers sets)) none)

-- the satellites of sets, with one set more behind
pub chosen_of-push : (start : ℤ) (sets : List Entry) (s : Entry) → chosen_of start (sets ++ s ∷ []) ≡ with_set start s (chosen_of start sets)
unfolding chosen_of
chosen_of-push start sets s =
    ap (λ ns. filter_map (after start sets s) (once_each ns)) (map-append (λ (e : Entry). e.elements.number) sets (s ∷ []))
    ∙ ap (filter_map (after start sets s)) (once_each-push s.elements.number (numbers sets))
    ∙ pushed start sets s (among s.elements.number (numbers sets)) refl
