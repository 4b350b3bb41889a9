-- Small outputs that grew by a front of a piece.
use Rattle.std.proofs.Common.{arith, ◌≡◌, ℕ, zero, suc, [], ◌∷◌, List, Option, Some, refl, take}
use Rattle.rows_outside.specs.SmallGrowths.{SmallFronts}

-- no front of two bytes is the last one alone
the_last : (count : ℕ) → ◌≡◌ {A = Option (List ℕ)} (Some (1 ∷ 3 ∷ [])) (Some (1 ∷ take count (2 ∷ 3 ∷ []))) → ⊥
the_last zero e = cc
the_last (suc count) e = cc

-- none has a third byte
beyond : (count : ℕ) → ◌≡◌ {A = Option (List ℕ)} (Some (1 ∷ 2 ∷ 3 ∷ 4 ∷ [])) (Some (1 ∷ take count (2 ∷ 3 ∷ []))) → ⊥
beyond zero e = cc
beyond (suc zero) e = cc
beyond (suc (suc zero)) e = cc
beyond (suc (suc (suc count))) e = cc

-- none of them takes away what was there
lost : (count : ℕ) → ◌≡◌ {A = Option (List ℕ)} (Some []) (Some (1 ∷ take count (2 ∷ 3 ∷ []))) → ⊥
lost count e = cc

pub small_fronts : SmallFronts
small_fronts = record {
  one = (1, omega arith, refl);
  none = (0, omega arith, refl);
  all = (2, omega arith, refl);
  the_last = λ h. the_last h.0 h.2;
  beyond = λ h. beyond h.0 h.2;
  lost = λ h. lost h.0 h.2;
}
