-- Lists of which one element is written over, or that are taken one by one.
use Rattle.std.proofs.Common.{◌≡◌, ℕ, zero, suc, ◌+◌, ◌<◌, ◌≤◌, refl, sym, ap, ◌∙◌, arith, List, [], ◌∷◌, ◌++◌, length, get_or, map, set, take, Option, Some, None, slice_get, inl, inr, ◌⊎◌}
use Rattle.std.proofs.lemmas.List.{map_push, take_more}
use Rattle.std.proofs.lemmas.Option.{get_or_from_slice_get, slice_get_cases, slice_get_within}

-- a list where an element is written over by one of the same image
pub map_set_same : {A B : Type 0} (f : A → B) (xs : List A) (k : ℕ) (x y : A) → x ≡ get_or xs k x → k < length xs → f y ≡ f x → map f (set xs k y) ≡ map f xs
map_set_same f [] k x y read low same = absurd (omega arith)
map_set_same f (z ∷ zs) zero x y read low same = λ i. (same ∙ ap f read) i ∷ map f zs
map_set_same f (z ∷ zs) (suc k) x y read low same = ap (λ t. f z ∷ t) (map_set_same f zs k x y read (omega arith) same)

-- one more element
pub take_push : {A : Type 0} (xs : List A) (k : ℕ) (x : A) → slice_get xs k ≡ Some x → take (k + 1) xs ≡ take k xs ++ x ∷ []
take_push xs k x e = take_more xs k x (slice_get_within xs k x e) ∙ ap (λ y. take k xs ++ y ∷ []) (get_or_from_slice_get xs k x x e)

-- its image
pub map_take_push : {A B : Type 0} (f : A → B) (xs : List A) (k : ℕ) (x : A) → slice_get xs k ≡ Some x → map f (take (k + 1) xs) ≡ map f (take k xs) ++ f x ∷ []
map_take_push f xs k x e = ap (map f) (take_push xs k x e) ∙ map_push f (take k xs) x

-- there is an element at each place
pub some_at : {A : Type 0} (xs : List A) (k : ℕ) → k < length xs → (x : A) × (slice_get xs k ≡ Some x)
some_at {A = A} xs k low = by (slice_get_cases xs k).1
  where
    by : ((x : A) × (k < length xs) × (slice_get xs k ≡ Some x) × (get_or xs k x ≡ x)) ⊎ ((length xs ≤ k) × (slice_get xs k ≡ None)) → (x : A) × (slice_get xs k ≡ Some x)
    by (inl h) = (h.0, h.2)
    by (inr h) = absurd (omega (arith, h.0))
