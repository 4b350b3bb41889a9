-- A map whose keys are the numbers of its values.
use Rattle.std.proofs.Common.{◌≡◌, ℕ, zero, suc, ◌+◌, ◌<◌, ◌≤◌, nat_eq, arith, Bool, true, false, cond, ◌||◌, List, [], ◌∷◌, ◌++◌, length, Option, None, Some, is_some, All, refl, sym, ap, ◌∙◌}
use Rattle.std.proofs.lemmas.Bool.{eqb-true}
use Rattle.std.proofs.lemmas.List.{map-append, length-append}
use Rattle.std.proofs.lemmas.List.Elements.{All-append}
use Rattle.std.specs.List.{list_any}
use Rattle.std.specs.Map.{keys_of, values_of, lookup}
use Rattle.catalogue.specs.declared.entry.Entry.{Entry}
use Rattle.catalogue.specs.Entries.{IsName, IsCatalogue, numbers, has_number, entry_with, most_entries}

first : {X : Type 0} (passes : Bool) (value : X) (rest : Option X) (found : Bool) → is_some rest ≡ found → is_some (cond passes (Some value) rest) ≡ (passes || found)
first true value rest found e = refl
first false value rest found e = e

-- a key is found where one of the keys passes
pub lookup_is : {K X : Type 0} (test : K → Bool) (es : List (K × X)) → is_some (lookup test es) ≡ list_any test (keys_of es)
lookup_is test [] = refl
lookup_is test (e ∷ es) = first (test e.0) e.1 (lookup test es) (list_any test (keys_of es)) (lookup_is test es)

none_of : {A : Type 0} (x : Option A) → is_some x ≡ false → x ≡ None
none_of None e = refl
none_of (Some a) e = absurd cc

-- a number that no value has is no key
pub lookup-absent : (number : ℕ) (es : List (ℕ × Entry)) → numbers (values_of es) ≡ keys_of es → has_number number (values_of es) ≡ false
    → lookup (nat_eq number) es ≡ None
lookup-absent number es same absent =
    none_of (lookup (nat_eq number) es) (lookup_is (nat_eq number) es ∙ ap (list_any (nat_eq number)) (sym same) ∙ absent)

-- one value more behind
pub values_of-push : (es : List (ℕ × Entry)) (number : ℕ) (entry : Entry) → values_of (es ++ (number, entry) ∷ []) ≡ values_of es ++ entry ∷ []
values_of-push es number entry = map-append _ es ((number, entry) ∷ [])

pub numbers-push : (es : List (ℕ × Entry)) (entry : Entry) → numbers (values_of es) ≡ keys_of es
    → numbers (values_of (es ++ (entry.elements.number, entry) ∷ [])) ≡ keys_of (es ++ (entry.elements.number, entry) ∷ [])
numbers-push es entry same =
    ap numbers (values_of-push es entry.elements.number entry)
    ∙ map-append _ (values_of es) (entry ∷ [])
    ∙ ap (λ ks. ks ++ entry.elements.number ∷ []) same
    ∙ sym (map-append _ es ((entry.elements.number, entry) ∷ []))

more : {n m : ℕ} → n < m → n + 1 ≤ m
more h = omega arith

-- a catalogue with one satellite more is one
pub catalogue-push : (entries : List Entry) (entry : Entry) → IsCatalogue entries → length entries < most_entries → IsName entry.name → IsCatalogue (entries ++ entry ∷ [])
catalogue-push entries entry old room name = record {
  most = rw (length-append entries (entry ∷ [])) (more room);
  names = All-append (λ (e : Entry). IsName e.name) entries (entry ∷ []) old.names one;
}
  where
    one : All (λ (e : Entry). IsName e.name) (entry ∷ [])
    one zero d h = name
    one (suc k) d h = absurd (omega arith)

found_entry : (a b : Bool) (value : Entry) (rest found : Option Entry) → a ≡ b → rest ≡ found → cond a (Some value) rest ≡ cond b (Some value) found
found_entry a b value rest found e f = rw (e, f) refl

-- what a key finds is the first value with the number
pub lookup_entry : (number : ℕ) (es : List (ℕ × Entry)) → numbers (values_of es) ≡ keys_of es → lookup (nat_eq number) es ≡ entry_with number (values_of es)
lookup_entry number [] same = refl
lookup_entry number (e ∷ es) same =
    let head : e.1.elements.number ≡ e.0 = cc in
    let tail : numbers (values_of es) ≡ keys_of es = cc in
    found_entry (nat_eq number e.0) (nat_eq number e.1.elements.number) e.1 _ _ (ap (nat_eq number) (sym head)) (lookup_entry number es tail)

-- it is there where a value has the number
pub entry_with-is_some : (number : ℕ) (entries : List Entry) → is_some (entry_with number entries) ≡ has_number number entries
entry_with-is_some number [] = refl
entry_with-is_some number (e ∷ es) = first (nat_eq number e.elements.number) e (entry_with number es) (has_number number es) (entry_with-is_some number es)

-- and has this number
pub entry_with-number : (number : ℕ) (entries : List Entry) (entry : Entry) → entry_with number entries ≡ Some entry → entry.elements.number ≡ number
entry_with-number number [] entry h = absurd cc
entry_with-number number (e ∷ es) entry h = by (nat_eq number e.elements.number) refl h (entry_with-number number es entry)
  where
    by : (b : Bool) → nat_eq number e.elements.number ≡ b → cond b (Some e) (entry_with number es) ≡ Some entry
        → (entry_with number es ≡ Some entry → entry.elements.number ≡ number) → entry.elements.number ≡ number
    by true same found later = let is : e ≡ entry = cc in ap (λ (x : Entry). x.elements.number) (sym is) ∙ sym (eqb-true _ _ same)
    by false other found later = later found
