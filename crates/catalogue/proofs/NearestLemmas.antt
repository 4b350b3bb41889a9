-- The first of the nearest, where one more stands behind.
use Rattle.std.proofs.Common.{◌≡◌, ℕ, ◌<◌, ◌≤◌, nat_le, nat_lt, min, arith, Bool, true, false, cond, ◌&&◌, ◌||◌, List, [], ◌∷◌, ◌++◌, find, Option, None, Some, is_some, refl, sym, ap, ◌∙◌}
use Rattle.std.proofs.lemmas.Bool.{and_parts, and_from, and_left, and_right, or_left, or_right, both_ways, ltb-true, ltb-false, leb-true, leb-false, le-leb, lt-leb}
use Rattle.std.proofs.lemmas.List.Folds.{find-append, list_all-append}
use Rattle.std.specs.List.{list_all, list_any}
use Rattle.std.specs.Option.{option_or}

module _ {A : Type 0} where
  -- what is found passes the test
  pub found_passes : (p : A → Bool) (xs : List A) (x : A) → find p xs ≡ Some x → p x ≡ true
  found_passes p [] x h = absurd cc
  found_passes p (y ∷ ys) x h = by (p y) refl h (found_passes p ys x)
    where
      by : (b : Bool) → p y ≡ b → cond b (Some y) (find p ys) ≡ Some x → (find p ys ≡ Some x → p x ≡ true) → p x ≡ true
      by true e found later = let is : y ≡ x = cc in ap p (sym is) ∙ e
      by false e found later = later found

  -- and each test that all pass
  pub found_among : (p q : A → Bool) (xs : List A) (x : A) → find p xs ≡ Some x → list_all q xs ≡ true → q x ≡ true
  found_among p q [] x h all = absurd cc
  found_among p q (y ∷ ys) x h all = by (p y) h (found_among p q ys x)
    where
      both : (q y ≡ true) × (list_all q ys ≡ true)
      both = and_parts _ _ all

      by : (b : Bool) → cond b (Some y) (find p ys) ≡ Some x → (find p ys ≡ Some x → list_all q ys ≡ true → q x ≡ true) → q x ≡ true
      by true found later = let is : y ≡ x = cc in ap q (sym is) ∙ both.0
      by false found later = later found both.1

  -- nothing is found where nothing passes
  none_found : (p q : A → Bool) (xs : List A) → list_all q xs ≡ true → ((x : A) → q x ≡ true → p x ≡ false) → find p xs ≡ None
  none_found p q [] all h = refl
  none_found p q (x ∷ xs) all h =
      let both = and_parts _ _ all in
      ap (λ b. cond b (Some x) (find p xs)) (h x both.0) ∙ none_found p q xs both.1 h

  -- tests that agree on what passes q find the same
  same_found : (p r : A → Bool) (xs : List A) → ((x : A) → p x ≡ r x) → find p xs ≡ find r xs
  same_found p r [] h = refl
  same_found p r (x ∷ xs) h = rw (h x, same_found p r xs h) refl

  -- something is found where something passes
  find-is_some : (p : A → Bool) (xs : List A) → is_some (find p xs) ≡ list_any p xs
  find-is_some p [] = refl
  find-is_some p (x ∷ xs) = by (p x) (find-is_some p xs)
    where
      by : (b : Bool) → is_some (find p xs) ≡ list_any p xs → is_some (cond b (Some x) (find p xs)) ≡ (b || list_any p xs)
      by true later = refl
      by false later = later

farther : {s kept x : ℕ} → s < kept → kept ≤ x → s < x
farther h i = omega arith

less : {m n : ℕ} → m < n → m ≤ n
less h = omega arith

through : {x y z : ℕ} → x ≤ y → y ≤ z → x ≤ z
through h i = omega arith

module _ {A : Type 0} (d : A → ℕ) where
  -- none of these is nearer
  abbrev pub is_least : List A → A → Bool
  is_least xs x = list_all (λ other. nat_le (d x) (d other)) xs

  -- the first of the nearest
  abbrev pub first_least : List A → Option A
  first_least xs = find (is_least xs) xs

  -- the nearer of one more and an earlier one
  abbrev pub nearer : A → Option A → A
  nearer x None = x
  nearer x (Some kept) = cond (nat_lt (d x) (d kept)) x kept

  -- the least distance
  abbrev least : A → List A → ℕ
  least x [] = d x
  least x (y ∷ ys) = min (d x) (least y ys)

  least_below : (n : ℕ) (x : A) (xs : List A) → n ≤ least x xs → list_all (λ other. nat_le n (d other)) (x ∷ xs) ≡ true
  least_below n x [] h = and_from _ _ (le-leb n (d x) h) refl
  least_below n x (y ∷ ys) h = and_from _ _ (le-leb n (d x) (omega arith)) (least_below n y ys (omega arith))

  least_found : (n : ℕ) (x : A) (xs : List A) → least x xs ≤ n → list_any (λ other. nat_le (d other) n) (x ∷ xs) ≡ true
  least_found n x [] h = or_left _ _ (le-leb (d x) n h)
  least_found n x (y ∷ ys) h = by (nat_le (d x) n) refl (least_found n y ys)
    where
      by : (b : Bool) → nat_le (d x) n ≡ b → (least y ys ≤ n → list_any (λ other. nat_le (d other) n) (y ∷ ys) ≡ true)
          → (b || list_any (λ other. nat_le (d other) n) (y ∷ ys)) ≡ true
      by true e later = refl
      by false e later = let far = leb-false (d x) n e in later (omega arith)

  any_weaker : (p q : A → Bool) (xs : List A) → ((x : A) → p x ≡ true → q x ≡ true) → list_any p xs ≡ true → list_any q xs ≡ true
  any_weaker p q [] h some = cc
  any_weaker p q (x ∷ xs) h some = by (p x) refl some (any_weaker p q xs h)
    where
      by : (b : Bool) → p x ≡ b → (b || list_any p xs) ≡ true → (list_any p xs ≡ true → list_any q xs ≡ true) → (q x || list_any q xs) ≡ true
      by true e here later = or_left _ _ (h x e)
      by false e here later = or_right _ _ (later here)

  all_weaker : (p q : A → Bool) (xs : List A) → ((x : A) → p x ≡ true → q x ≡ true) → list_all p xs ≡ true → list_all q xs ≡ true
  all_weaker p q [] h all = refl
  all_weaker p q (x ∷ xs) h all =
      let both = and_parts _ _ all in
      and_from _ _ (h x both.0) (all_weaker p q xs h both.1)

  -- where there are some there is a nearest
  pub least-is_some : (x : A) (xs : List A) → is_some (first_least (x ∷ xs)) ≡ true
  least-is_some x xs =
      find-is_some (is_least (x ∷ xs)) (x ∷ xs)
      ∙ any_weaker _ _ (x ∷ xs) (λ y near. least_below (d y) x xs (leb-true _ _ near)) (least_found (least x xs) x xs (omega arith))

  -- one more behind is among them
  least-push-none : (s : A) (xs : List A) → first_least xs ≡ None → first_least (xs ++ s ∷ []) ≡ Some s
  least-push-none s [] none = ap (λ b. cond b (Some s) None) (and_from _ _ (le-leb (d s) (d s) (omega arith)) refl)
  least-push-none s (x ∷ xs) none = absurd (both_ways _ (ap is_some none) (least-is_some x xs))

  -- a nearer one behind them is the nearest
  least-push-near : (s : A) (xs : List A) (kept : A) → d s < d kept → is_least xs kept ≡ true → first_least (xs ++ s ∷ []) ≡ Some s
  least-push-near s xs kept near all =
      let tail : list_all (λ other. nat_le (d s) (d other)) (s ∷ []) ≡ true = and_from (nat_le (d s) (d s)) true (le-leb (d s) (d s) (omega arith)) refl in
      let here : is_least (xs ++ s ∷ []) s ≡ true =
      list_all-append (λ other. nat_le (d s) (d other)) xs (s ∷ [])
      ∙ and_from (is_least xs s) (list_all (λ other. nat_le (d s) (d other)) (s ∷ []))
      (all_weaker (λ other. nat_le (d kept) (d other)) (λ other. nat_le (d s) (d other)) xs (λ x far. le-leb (d s) (d x) (less (farther near (leb-true (d kept) (d x) far)))) all)
      tail in
      let earlier : find (is_least (xs ++ s ∷ [])) xs ≡ None =
      none_found (is_least (xs ++ s ∷ [])) (λ other. nat_le (d kept) (d other)) xs all
      (λ x far. list_all-append (λ other. nat_le (d x) (d other)) xs (s ∷ [])
      ∙ and_right (is_least xs x) _ (and_left (nat_le (d x) (d s)) true (lt-leb (d x) (d s) (farther near (leb-true (d kept) (d x) far))))) in
      find-append (is_least (xs ++ s ∷ [])) xs (s ∷ [])
      ∙ ap (λ o. option_or o (find (is_least (xs ++ s ∷ [])) (s ∷ []))) earlier
      ∙ ap (λ c. cond c (Some s) None) here

  both_least : (least_of within : Bool) → (least_of ≡ true → within ≡ true) → (least_of && (within && true)) ≡ least_of
  both_least true within h = rw (h refl) refl
  both_least false within h = refl

  -- one that is not nearer changes nothing
  least-push-far : (s : A) (xs : List A) (kept : A) → d kept ≤ d s → first_least xs ≡ Some kept → first_least (xs ++ s ∷ []) ≡ Some kept
  least-push-far s xs kept far found =
      let same : find (is_least (xs ++ s ∷ [])) xs ≡ find (is_least xs) xs =
      same_found (is_least (xs ++ s ∷ [])) (is_least xs) xs
      (λ x. list_all-append (λ other. nat_le (d x) (d other)) xs (s ∷ [])
      ∙ both_least (is_least xs x) (nat_le (d x) (d s))
      (λ near. le-leb (d x) (d s) (through (leb-true (d x) (d kept) (found_among (is_least xs) (λ other. nat_le (d x) (d other)) xs kept found near)) far))) in
      find-append (is_least (xs ++ s ∷ [])) xs (s ∷ [])
      ∙ ap (λ o. option_or o (find (is_least (xs ++ s ∷ [])) (s ∷ []))) (same ∙ found)

  -- the first of the nearest, with one more behind
  pub least-push : (s : A) (xs : List A) → first_least (xs ++ s ∷ []) ≡ Some (nearer s (first_least xs))
  least-push s xs = by (first_least xs) refl
    where
      or_kept : (kept : A) (b : Bool) → nat_lt (d s) (d kept) ≡ b → first_least xs ≡ Some kept → first_least (xs ++ s ∷ []) ≡ Some (cond b s kept)
      or_kept kept true e found = least-push-near s xs kept (ltb-true (d s) (d kept) e) (found_passes (is_least xs) xs kept found)
      or_kept kept false e found = least-push-far s xs kept (ltb-false (d s) (d kept) e) found

      by : (found : Option A) → first_least xs ≡ found → first_least (xs ++ s ∷ []) ≡ Some (nearer s found)
      by None none = least-push-none s xs none
      by (Some kept) found = or_kept kept (nat_lt (d s) (d kept)) refl found
