-- The satellites of the sets of a file, read one after another.
use Rattle.std.proofs.Common.{◌≡◌, ℕ, zero, suc, ◌+◌, ◌==◌, nat_lt, arith, Bool, true, false, cond, List, [], ◌∷◌, ◌++◌, length, take, Result, Ok, Err, ℤ, append_assoc, append-nil, refl, sym, ap, ◌∙◌}
use Rattle.std.proofs.lemmas.Bool.{ltb-true, ltb-false, lt-ltb, le-ltb, ne_eqb}
use Rattle.elements.specs.Steps.{◌>>=◌}
use Rattle.catalogue.specs.declared.entry.Entry.{Entry}
use Rattle.catalogue.specs.declared.fault.CatFault.{CatFault}
use Rattle.catalogue.specs.declared.fault.CatFault.TheVariants.{Empty, TooMany}
use Rattle.catalogue.specs.Choice.{chosen_of, chosen}
use Rattle.catalogue.specs.Entries.{most_entries}
use Rattle.catalogue.specs.Keeping.{with_set}
use Rattle.catalogue.specs.Sets.{sets_in, all_of, at_most, some_of, element_sets}
use Rattle.catalogue.proofs.ChoiceLemmas.{chosen_of-push}

ltb-sucs : (n m : ℕ) → nat_lt (suc n) (suc m) ≡ nat_lt n m
ltb-sucs n m = by (nat_lt n m) refl
  where
    by : (b : Bool) → nat_lt n m ≡ b → nat_lt (suc n) (suc m) ≡ nat_lt n m
    by true e = let less = ltb-true n m e in lt-ltb (suc n) (suc m) (omega arith) ∙ sym e
    by false e = let most = ltb-false n m e in le-ltb (suc n) (suc m) (omega arith) ∙ sym e

moved : {m : ℕ} (count left : ℕ) → count + suc left ≡ m → count + 1 + left ≡ m
moved count left e = omega arith

-- nothing is chosen of nothing
chosen_of-none : (start : ℤ) → chosen_of start [] ≡ []
unfolding chosen_of
chosen_of-none start = refl

module _ (most : ℕ) (start : ℤ) where
  -- the answer where so many sets were read, of which these are kept, and these are left
  abbrev pub read_on : ℕ → List Entry → List (Result Entry CatFault) → Result (List Entry) CatFault
  read_on count kept [] = cond (count == 0) (Err Empty) (Ok kept)
  read_on count kept (Ok set ∷ sets) = cond (nat_lt count most) (read_on (count + 1) (with_set start set kept) sets) (Err TooMany)
  read_on count kept (Err fault ∷ sets) = cond (nat_lt count most) (Err fault) (Err TooMany)

  -- what is chosen of sets that were read behind these
  abbrev chosen_behind : List Entry → List Entry → Result (List Entry) CatFault
  chosen_behind before sets = Ok (chosen_of start (before ++ sets))

  none_left : (left : ℕ) (before : List Entry) → Ok (chosen_of start before) ≡ at_most left [] >>= chosen_behind before
  none_left zero before = ap (λ l. Ok (chosen_of start l)) (sym (append-nil before))
  none_left (suc left) before =
      ap (λ l. Ok (chosen_of start l)) (sym (append-nil before))
      ∙ ap (λ b. (cond b (Err TooMany) (Ok [])) >>= chosen_behind before) (sym (le-ltb (suc left) 0 (omega arith)))

  -- a set is the first of those that are left
  one_more : (set : Entry) (before : List Entry) (more : Bool) (others : Result (List Entry) CatFault)
      → (others >>= (λ read. cond more (Err TooMany) (Ok read))) >>= chosen_behind (before ++ set ∷ [])
      ≡ ((others >>= (λ sets. Ok (set ∷ sets))) >>= (λ read. cond more (Err TooMany) (Ok read))) >>= chosen_behind before
  one_more set before more (Err fault) = refl
  one_more set before true (Ok sets) = refl
  one_more set before false (Ok sets) = ap (λ l. Ok (chosen_of start l)) (append_assoc before (set ∷ []) sets)

  at_limit : (count left : ℕ) → count + left ≡ most → left ≡ 0 → nat_lt count most ≡ false
  at_limit count left e h = le-ltb count most (omega arith)

  below_limit : (count left : ℕ) → count + suc left ≡ most → nat_lt count most ≡ true
  below_limit count left e = lt-ltb count most (omega arith)

  -- the answer from a place on
  pub read_on_is : (left count : ℕ) (before : List Entry) (sets : List (Result Entry CatFault)) → count + left ≡ most → (count ≡ 0 → sets ≡ [] → ⊥)
      → read_on count (chosen_of start before) sets ≡ at_most left sets >>= chosen_behind before
  read_on_is left count before [] e some = ap (λ b. cond b (Err Empty) (Ok (chosen_of start before))) (ne_eqb count 0 (λ h. some h refl)) ∙ none_left left before
  read_on_is zero count before (Ok set ∷ sets) e some =
      ap (λ b. cond b (read_on (count + 1) (with_set start set (chosen_of start before)) sets) (Err TooMany)) (at_limit count zero e refl)
      ∙ ap (λ b. (cond b (Err TooMany) (Ok [])) >>= chosen_behind before) (sym (lt-ltb 0 (suc (length sets)) (omega arith)))
  read_on_is zero count before (Err fault ∷ sets) e some =
      ap (λ b. cond b (Err fault) (Err TooMany)) (at_limit count zero e refl)
      ∙ ap (λ b. (cond b (Err TooMany) (Ok [])) >>= chosen_behind before) (sym (lt-ltb 0 (suc (length sets)) (omega arith)))
  read_on_is (suc left) count before (Ok set ∷ sets) e some =
      ap (λ b. cond b (read_on (count + 1) (with_set start set (chosen_of start before)) sets) (Err TooMany)) (below_limit count left e)
      ∙ ap (λ kept. read_on (count + 1) kept sets) (sym (chosen_of-push start before set))
      ∙ read_on_is left (count + 1) (before ++ set ∷ []) sets (moved count left e) (λ h none. absurd (omega (arith, h)))
      ∙ one_more set before (nat_lt left (length sets)) (all_of (take left sets))
      ∙ ap (λ b. ((all_of (take left sets) >>= (λ others. Ok (set ∷ others))) >>= (λ read. cond b (Err TooMany) (Ok read))) >>= chosen_behind before) (sym (ltb-sucs left (length sets)))
  read_on_is (suc left) count before (Err fault ∷ sets) e some = ap (λ b. cond b (Err fault) (Err TooMany)) (below_limit count left e)

-- the answer from the first set on
pub some_of_is : (start : ℤ) (sets : List (Result Entry CatFault)) → read_on most_entries start 0 [] sets ≡ some_of sets >>= (λ read. Ok (chosen_of start read))
some_of_is start [] = refl
some_of_is start (set ∷ sets) =
    ap (λ kept. read_on most_entries start 0 kept (set ∷ sets)) (sym (chosen_of-none start))
    ∙ read_on_is most_entries start most_entries 0 [] (set ∷ sets) refl (λ h none. cc)

-- what is chosen of a file
pub chosen_is : (bytes : List ℕ) (start : ℤ) → chosen bytes start ≡ read_on most_entries start 0 [] (sets_in bytes)
unfolding chosen element_sets
chosen_is bytes start = sym (some_of_is start (sets_in bytes))
