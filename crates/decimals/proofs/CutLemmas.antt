-- What stands before and after a place.
use Rattle.std.proofs.Common.{◌≡◌, arith, ℕ, ◌+◌, ◌-◌, ◌<◌, ◌≤◌, Bool, true, false, nat_lt, List, [], length, take, drop, Some, None, position, refl, ap, sym, ◌∙◌, ltb-true, ltb-false}
use Rattle.std.proofs.lemmas.List.{take_all, drop_all, length-drop}
use Rattle.std.specs.List.{position_or_len, before_first, after_first}

-- the place is the first that passes, and there is one
pub record IsPlace (p : ℕ → Bool) (xs : List ℕ) (k : ℕ) : Type 0 where
  pub is : k ≡ position_or_len p xs
  pub inside : k < length xs

place_by : (p : ℕ → Bool) (xs : List ℕ) (k : ℕ) (t : Bool) → nat_lt (position_or_len p xs) (length xs) ≡ t → position p xs ≡ Some k → IsPlace p xs k
place_by p xs k true e is =
    let same : position_or_len p xs ≡ k = let h = rw e at is in cc in
    let inside : position_or_len p xs < length xs = ltb-true _ _ e in
    record { is = sym same; inside = omega (arith, same, inside) }
place_by p xs k false e is = let h = rw e at is in cc

pub place_from : (p : ℕ → Bool) (xs : List ℕ) (k : ℕ) → position p xs ≡ Some k → IsPlace p xs k
place_from p xs k = place_by p xs k (nat_lt (position_or_len p xs) (length xs)) refl

none_by : (p : ℕ → Bool) (xs : List ℕ) (t : Bool) → nat_lt (position_or_len p xs) (length xs) ≡ t → position p xs ≡ None → length xs ≤ position_or_len p xs
none_by p xs true e is = let h = rw e at is in cc
none_by p xs false e is = ltb-false _ _ e

-- no element passes
pub none_from : (p : ℕ → Bool) (xs : List ℕ) → position p xs ≡ None → length xs ≤ position_or_len p xs
none_from p xs = none_by p xs (nat_lt (position_or_len p xs) (length xs)) refl

pub before_place : (p : ℕ → Bool) (xs : List ℕ) (k : ℕ) → position p xs ≡ Some k → take k xs ≡ before_first p xs
before_place p xs k is = ap (λ t. take t xs) (place_from p xs k is).is

pub after_place : (p : ℕ → Bool) (xs : List ℕ) (k : ℕ) → position p xs ≡ Some k → take (length xs - (k + 1)) (drop (k + 1) xs) ≡ after_first p xs
after_place p xs k is =
    take_all (length xs - (k + 1)) (drop (k + 1) xs) (omega (arith, length-drop (k + 1) xs)) ∙ ap (λ t. drop (t + 1) xs) (place_from p xs k is).is

pub before_none : (p : ℕ → Bool) (xs : List ℕ) → position p xs ≡ None → xs ≡ before_first p xs
before_none p xs is = sym (take_all (position_or_len p xs) xs (none_from p xs is))

pub after_none : (p : ℕ → Bool) (xs : List ℕ) → position p xs ≡ None → ◌≡◌ {A = List ℕ} [] (after_first p xs)
after_none p xs is = sym (drop_all (position_or_len p xs + 1) xs (omega (arith, none_from p xs is)))
