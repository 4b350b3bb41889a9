-- One step of reading a catalogue.
use Rattle.std.proofs.Common.{◌≡◌, ℕ, suc, ◌+◌, ◌<◌, ◌≤◌, ◌==◌, nat_lt, arith, true, false, cond, List, [], ◌∷◌, length, slice_get, Option, None, Some, Result, Ok, Err, ℤ, is_err, OnOk, ap, subst, ◌∙◌}
use Rattle.std.proofs.lemmas.Bool.{lt-ltb, le-ltb}
use Rattle.catalogue.specs.declared.entry.Entry.{Entry}
use Rattle.catalogue.specs.declared.fault.CatFault.{CatFault}
use Rattle.catalogue.specs.declared.fault.CatFault.TheVariants.{Empty, TooMany, OutOfMemory}
use Rattle.catalogue.specs.Keeping.{with_set}
use Rattle.catalogue.specs.Reading.{IsReadOf}
use Rattle.catalogue.specs.Source.{IsNextOf}
use Rattle.catalogue.proofs.FoldLemmas.{read_on}

-- what holds where there is no fault
pub holds : {A E P : Type 0} (r : Result A E) → OnOk r P → is_err r ≡ false → P
holds (Ok a) h e = h
holds (Err fault) h e = absurd cc

module _ (most : ℕ) (start : ℤ) (count : ℕ) (kept : List Entry) where
  -- no set is left
  pub read_on-none : (next : Option (Result Entry CatFault)) (before after : List (Result Entry CatFault)) → IsNextOf next before after → next ≡ None
      → read_on most start count kept before ≡ cond (count == 0) (Err Empty) (Ok kept)
  read_on-none next before after read is =
      let none : before ≡ [] = subst (λ n. IsNextOf n before after) is read in
      ap (read_on most start count kept) none

  full : (before : List (Result Entry CatFault)) → 0 < length before → nat_lt count most ≡ false → read_on most start count kept before ≡ Err TooMany
  full [] h e = absurd (omega arith)
  full (Ok set ∷ sets) h e = ap (λ b. cond b (read_on most start (count + 1) (with_set start set kept) sets) (Err TooMany)) e
  full (Err fault ∷ sets) h e = ap (λ b. cond b (Err fault) (Err TooMany)) e

  -- one is left, and no more may be read
  pub read_on-full : (next : Option (Result Entry CatFault)) (set : Result Entry CatFault) (before after : List (Result Entry CatFault)) → IsNextOf next before after → next ≡ Some set
      → most ≤ count → read_on most start count kept before ≡ Err TooMany
  read_on-full next set before after read is h =
      let some : (0 < length before) × IsReadOf set before after = subst (λ n. IsNextOf n before after) is read in
      full before some.0 (le-ltb count most h)

  first_fault : (fault : CatFault) (before : List (Result Entry CatFault)) → slice_get before 0 ≡ Some (Err fault) → nat_lt count most ≡ true → read_on most start count kept before ≡ Err fault
  first_fault fault [] h e = absurd cc
  first_fault fault (Ok set ∷ sets) h e = absurd cc
  first_fault fault (Err other ∷ sets) h e = ap (λ b. cond b (Err other) (Err TooMany)) e ∙ cc

  -- it has a fault
  pub read_on-fault : (next : Option (Result Entry CatFault)) (set : Result Entry CatFault) (fault : CatFault) (before after : List (Result Entry CatFault)) → IsNextOf next before after → next ≡ Some set
      → set ≡ Err fault → ¬ (fault ≡ OutOfMemory) → count < most → read_on most start count kept before ≡ Err fault
  read_on-fault next set fault before after read is is_fault memory h =
      let some : (0 < length before) × IsReadOf (Err fault) before after = subst (λ n. IsNextOf n before after) (is ∙ ap Some is_fault) read in
      first_fault fault before (some.1 memory) (lt-ltb count most h)

  -- it is read
  pub read_on-set : (next : Option (Result Entry CatFault)) (read_set : Result Entry CatFault) (set : Entry) (before after : List (Result Entry CatFault)) → IsNextOf next before after → next ≡ Some read_set
      → read_set ≡ Ok set → count < most → read_on most start count kept before ≡ read_on most start (count + 1) (with_set start set kept) after
  read_on-set next read_set set before after read is is_set h =
      let some : (0 < length before) × IsReadOf (Ok set) before after = subst (λ n. IsNextOf n before after) (is ∙ ap Some is_set) read in
      ap (read_on most start count kept) some.1 ∙ ap (λ b. cond b (read_on most start (count + 1) (with_set start set kept) after) (Err TooMany)) (lt-ltb count most h)

-- the sets that are left are fewer then
pub fewer : (next : Option (Result Entry CatFault)) (read_set : Result Entry CatFault) (set : Entry) (before after : List (Result Entry CatFault)) → IsNextOf next before after → next ≡ Some read_set
    → read_set ≡ Ok set → length after < length before
fewer next read_set set before after read is is_set =
    let some : (0 < length before) × IsReadOf (Ok set) before after = subst (λ n. IsNextOf n before after) (is ∙ ap Some is_set) read in
    let more : length before ≡ suc (length after) = ap length some.1 in
    omega arith
