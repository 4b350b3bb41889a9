-- Places next to an end of a cell, as places among its first ticks, or among those of the cell the other way round.
use Rattle.std.proofs.Common.{◌≡◌, arith, refl, subst, sym, [], ◌∷◌, ℕ, pos, neg_ℤ, ◌+◌, ◌-◌, ◌*◌, ◌<◌, ◌≤◌, ◌-ℤ◌}
use Rattle.std.proofs.lemmas.Int.{ints}
use Rattle.exact.specs.Rational.{ℚ, of_int, ratio, neg_ℚ, one_ℚ, ◌+ℚ◌, ◌-ℚ◌, ◌*ℚ◌, ◌≤ℚ◌}
use Rattle.exact.proofs.Integers.{of_int_add, of_int_is, of_int_le, of_int_mul, of_int_neg}
use Rattle.exact.proofs.Order.{gap, known, le_by, ◌⊕◌, ◌⊗◌}
use Rattle.exact.proofs.RationalRing.{reads}
use Rattle.fixed_iv.specs.Place.{Place, on_line}
use Rattle.lin_form.specs.Parts.{IsAmongFirst}
use Rattle.sgp4_model.specs.Time.{IsWithin}

-- ---- whole numbers
length_is : (m n : ℕ) → m < n → of_int (pos (n - m)) ≡ of_int (pos n) -ℚ of_int (pos m)
length_is m n h = subst (λ t. of_int t ≡ of_int (pos n) -ℚ of_int (pos m)) (sym (whole m n h)) (rw (of_int_add (pos n) (neg_ℤ (pos m)), of_int_neg (pos m)) refl)
  where
    whole : (m n : ℕ) → m < n → pos (n - m) ≡ pos n -ℤ pos m
    whole m n h = omega (arith, ints, h)

twice_is : (k : ℕ) → of_int (pos (2 * k)) ≡ ratio (pos 2) 1 *ℚ of_int (pos k)
twice_is k = rw (of_int_mul (pos 2) (pos k), of_int_is (pos 2)) refl

sum_is : (m k : ℕ) → of_int (pos (m + k)) ≡ of_int (pos m) +ℚ of_int (pos k)
sum_is m k = of_int_add (pos m) (pos k)

-- ---- the place the other way round
pub opposite_low : (h : Place) → neg_ℚ one_ℚ ≤ℚ neg_ℚ h.at
opposite_low h = le_by (h.at ∷ []) (gap h.high) (search reads depth 60) tt

pub opposite_high : (h : Place) → neg_ℚ h.at ≤ℚ one_ℚ
opposite_high h = le_by (h.at ∷ []) (gap h.low) (search reads depth 60) tt

abbrev pub opposite : Place → Place
opposite h = record { at = neg_ℚ h.at; low = opposite_low h; high = opposite_high h }

-- ---- within a larger cell
pub within_first : {m n left : ℕ} {q : ℚ} → left ≤ n → IsWithin m left q → IsWithin m n q
within_first {m} {n} {left} {q} h w = record { low = w.low; high = le_by (q ∷ of_int (pos left) ∷ of_int (pos n) ∷ []) (gap w.high ⊕ gap (of_int_le {a = pos left} {b = pos n} (omega (arith, ints, h)))) (search reads depth 60) tt }

pub within_last : {m n right : ℕ} {q : ℚ} → m ≤ right → IsWithin right n q → IsWithin m n q
within_last {m} {n} {right} {q} h w = record { low = le_by (q ∷ of_int (pos m) ∷ of_int (pos right) ∷ []) (gap w.low ⊕ gap (of_int_le {a = pos m} {b = pos right} (omega (arith, ints, h)))) (search reads depth 60) tt; high = w.high }

-- ---- among the first ticks
pub among_first : (m n k : ℕ) (q : ℚ) (h : Place) → m < n → 0 < k → on_line h (of_int (pos m)) (of_int (pos n)) ≡ q → IsWithin m (m + k) q → IsAmongFirst h k (n - m)
among_first m n k q h longer some is w = record {
  some = some;
  within = rw (length_is m n longer, twice_is k) (close (of_int (pos m)) (of_int (pos n)) (of_int (pos k)) (subst (λ t. t ≤ℚ of_int (pos m) +ℚ of_int (pos k)) (sym is) (rw (sum_is m k) at w.high)));
}
  where
    close : (f g t : ℚ) → on_line h f g ≤ℚ f +ℚ t → (g -ℚ f) *ℚ (one_ℚ +ℚ h.at) ≤ℚ ratio (pos 2) 1 *ℚ t
    close f g t p = le_by (f ∷ g ∷ t ∷ h.at ∷ []) (known 2 1 ⊗ gap p) (search reads depth 90) tt

-- and among the last
pub among_last : (m n k right : ℕ) (q : ℚ) (h : Place) → m < n → 0 < k → n ≤ right + k → on_line h (of_int (pos m)) (of_int (pos n)) ≡ q → IsWithin right n q → IsAmongFirst (opposite h) k (n - m)
among_last m n k right q h longer some reach is w = record {
  some = some;
  within = rw (length_is m n longer, twice_is k) (close (of_int (pos m)) (of_int (pos n)) (of_int (pos right)) (of_int (pos k)) (subst (λ t. of_int (pos right) ≤ℚ t) (sym is) w.low) (rw (sum_is right k) at (of_int_le {a = pos n} {b = pos (right + k)} (omega (arith, ints, reach)))));
}
  where
    close : (f g r t : ℚ) → r ≤ℚ on_line h f g → g ≤ℚ r +ℚ t → (g -ℚ f) *ℚ (one_ℚ +ℚ neg_ℚ h.at) ≤ℚ ratio (pos 2) 1 *ℚ t
    close f g r t p u = le_by (f ∷ g ∷ r ∷ t ∷ h.at ∷ []) (known 2 1 ⊗ gap p ⊕ known 2 1 ⊗ gap u) (search reads depth 90) tt
