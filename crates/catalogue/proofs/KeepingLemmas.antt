-- The satellites that are kept, with one more set.
use Rattle.std.proofs.Common.{◌≡◌, ℕ, zero, suc, ◌+◌, ◌<◌, ◌≤◌, ◌==◌, nat_eq, arith, Bool, true, false, cond, List, [], ◌∷◌, length, Some, All, ℤ, refl, sym, ap}
use Rattle.std.proofs.lemmas.Bool.{eqb-true}
use Rattle.std.specs.Map.{keys_of, values_of}
use Rattle.indexmap.specs.IndexMap.{insert_entry}
use Rattle.catalogue.specs.declared.entry.Entry.{Entry}
use Rattle.catalogue.specs.Entries.{IsName, IsCatalogue, numbers, entry_with, most_entries}
use Rattle.catalogue.specs.Keeping.{is_nearer, is_wanted, with_entry, with_set}

-- a set that is wanted is put in its place
pub wanted_is : (start : ℤ) (set : Entry) (entries : List Entry) → is_wanted start set (entry_with set.elements.number entries) ≡ true
    → with_entry set entries ≡ with_set start set entries
wanted_is start set [] h = refl
wanted_is start set (kept ∷ others) h = by (set.elements.number == kept.elements.number) h (wanted_is start set others)
  where
    by : (b : Bool) → is_wanted start set (cond b (Some kept) (entry_with set.elements.number others)) ≡ true
        → (is_wanted start set (entry_with set.elements.number others) ≡ true → with_entry set others ≡ with_set start set others)
        → cond b (set ∷ others) (kept ∷ with_entry set others) ≡ cond b (cond (is_nearer start set kept) set kept ∷ others) (kept ∷ with_set start set others)
    by true near later = ap (λ c. cond c set kept ∷ others) (sym near)
    by false there later = ap (λ r. kept ∷ r) (later there)

-- one that is not wanted changes nothing
pub unwanted_is : (start : ℤ) (set : Entry) (entries : List Entry) → is_wanted start set (entry_with set.elements.number entries) ≡ false
    → entries ≡ with_set start set entries
unwanted_is start set [] h = absurd cc
unwanted_is start set (kept ∷ others) h = by (set.elements.number == kept.elements.number) h (unwanted_is start set others)
  where
    by : (b : Bool) → is_wanted start set (cond b (Some kept) (entry_with set.elements.number others)) ≡ false
        → (is_wanted start set (entry_with set.elements.number others) ≡ false → others ≡ with_set start set others)
        → kept ∷ others ≡ cond b (cond (is_nearer start set kept) set kept ∷ others) (kept ∷ with_set start set others)
    by true far later = ap (λ c. cond c set kept ∷ others) (sym far)
    by false there later = ap (λ r. kept ∷ r) (later there)

-- what a map does with the set of a number
pub values_of-insert : (set : Entry) (es : List (ℕ × Entry)) → numbers (values_of es) ≡ keys_of es
    → values_of (insert_entry nat_eq es set.elements.number set) ≡ with_entry set (values_of es)
values_of-insert set [] same = refl
values_of-insert set (e ∷ es) same =
    let head : e.1.elements.number ≡ e.0 = cc in
    let tail : numbers (values_of es) ≡ keys_of es = cc in
    by (set.elements.number == e.0) (set.elements.number == e.1.elements.number) (ap (λ n. set.elements.number == n) (sym head)) (values_of-insert set es tail)
  where
    by : (a b : Bool) → a ≡ b → values_of (insert_entry nat_eq es set.elements.number set) ≡ with_entry set (values_of es)
        → values_of (cond a ((e.0, set) ∷ es) (e ∷ insert_entry nat_eq es set.elements.number set)) ≡ cond b (set ∷ values_of es) (e.1 ∷ with_entry set (values_of es))
    by true true e later = refl
    by false false h later = ap (λ r. e.1 ∷ r) later
    by true false h later = absurd cc
    by false true h later = absurd cc

pub numbers-insert : (set : Entry) (es : List (ℕ × Entry)) → numbers (values_of es) ≡ keys_of es
    → numbers (values_of (insert_entry nat_eq es set.elements.number set)) ≡ keys_of (insert_entry nat_eq es set.elements.number set)
numbers-insert set [] same = refl
numbers-insert set (e ∷ es) same =
    let tail : numbers (values_of es) ≡ keys_of es = cc in
    by (set.elements.number == e.0) refl (numbers-insert set es tail)
  where
    by : (b : Bool) → (set.elements.number == e.0) ≡ b
        → numbers (values_of (insert_entry nat_eq es set.elements.number set)) ≡ keys_of (insert_entry nat_eq es set.elements.number set)
        → numbers (values_of (cond b ((e.0, set) ∷ es) (e ∷ insert_entry nat_eq es set.elements.number set))) ≡ keys_of (cond b ((e.0, set) ∷ es) (e ∷ insert_entry nat_eq es set.elements.number set))
    by true h later = let tail : numbers (values_of es) ≡ keys_of es = cc in rw (eqb-true _ _ h, tail) refl
    by false h later = let head : e.1.elements.number ≡ e.0 = cc in rw (head, later) refl

-- there is at most one satellite more
pub length-with_entry : (set : Entry) (entries : List Entry) → length (with_entry set entries) ≤ length entries + 1
length-with_entry set [] = omega arith
length-with_entry set (kept ∷ others) = by (set.elements.number == kept.elements.number) (length-with_entry set others)
  where
    by : (b : Bool) → length (with_entry set others) ≤ length others + 1 → length (cond b (set ∷ others) (kept ∷ with_entry set others)) ≤ length (kept ∷ others) + 1
    by true later = omega arith
    by false later = omega arith

pub length-with_set : (start : ℤ) (set : Entry) (entries : List Entry) → length (with_set start set entries) ≤ length entries + 1
length-with_set start set [] = omega arith
length-with_set start set (kept ∷ others) = by (set.elements.number == kept.elements.number) (is_nearer start set kept) (length-with_set start set others)
  where
    by : (b near : Bool) → length (with_set start set others) ≤ length others + 1
        → length (cond b (cond near set kept ∷ others) (kept ∷ with_set start set others)) ≤ length (kept ∷ others) + 1
    by true near later = omega arith
    by false near later = omega arith

module _ {A : Type 0} (P : A → Type 0) where
  all_cons : (x : A) (xs : List A) → P x → All P xs → All P (x ∷ xs)
  all_cons x xs here there zero d h = here
  all_cons x xs here there (suc k) d h = there k d (omega arith)

  all_tail : (x : A) (xs : List A) → All P (x ∷ xs) → All P xs
  all_tail x xs all k d h = all (suc k) d (omega arith)

names-with_entry : (set : Entry) (entries : List Entry) → IsName set.name → All (λ (e : Entry). IsName e.name) entries → All (λ (e : Entry). IsName e.name) (with_entry set entries)
names-with_entry set [] name all = all_cons (λ (e : Entry). IsName e.name) set [] name all
names-with_entry set (kept ∷ others) name all = by (set.elements.number == kept.elements.number) (names-with_entry set others name)
  where
    by : (b : Bool) → (All (λ (e : Entry). IsName e.name) others → All (λ (e : Entry). IsName e.name) (with_entry set others)) → All (λ (e : Entry). IsName e.name) (cond b (set ∷ others) (kept ∷ with_entry set others))
    by true later = all_cons (λ (e : Entry). IsName e.name) set others name (all_tail (λ (e : Entry). IsName e.name) kept others all)
    by false later = all_cons (λ (e : Entry). IsName e.name) kept (with_entry set others) (all zero kept (omega arith)) (later (all_tail (λ (e : Entry). IsName e.name) kept others all))

-- a catalogue with one more set is one
pub catalogue-with_entry : (set : Entry) (entries : List Entry) → IsCatalogue entries → length entries < most_entries → IsName set.name → IsCatalogue (with_entry set entries)
catalogue-with_entry set entries old room name = record {
  most = let more = length-with_entry set entries in omega arith;
  names = names-with_entry set entries name old.names;
}
