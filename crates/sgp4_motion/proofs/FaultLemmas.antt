-- Comparisons of given numbers with the limits.
use Rattle.std.proofs.Common.{◌≡◌, [], ◌∷◌, ◌↔◌, IsTrue, T, not, Bool, true, false, arith, refl, negsuc}
use Rattle.exact.specs.Rational.{ℚ, ratio, abs_ℚ, at_least_0, ◌-ℚ◌, ◌≤ℚ◌, ◌<ℚ◌}
use Rattle.exact.proofs.RationalRing.{reads}
use Rattle.exact.proofs.Order.{le_by, le_trans, gap}
use Rattle.exact.proofs.Bounds.{abs_le, le_abs, neg_le_abs}
use Rattle.exact.proofs.Strict.{lt_by, positive_gap}
use Rattle.exact.proofs.Tests.{by_test}
use Rattle.decimals.specs.OrderLaws.{lt_of_not_le, not_le}
use Rattle.sgp4_model.specs.Numerals.{decimal}

pub lt_le : {x y z : ℚ} → x <ℚ y → y ≤ℚ z → x <ℚ z
lt_le {x} {y} {z} h k = lt_of_not_le x z (λ l. not_le x y h (le_trans k l))

pub le_of_not_lt : {x y : ℚ} → ¬ (y <ℚ x) → x ≤ℚ y
le_of_not_lt {x} {y} h = by_test (at_least_0 (y -ℚ x)) (λ t. record { le = t }) (λ t. absurd (h (record { lt = t })))

pub not_lt : {x y : ℚ} → x ≤ℚ y → ¬ (y <ℚ x)
not_lt {x} {y} h k = not_le y x k h

-- ---- what a test says
pub shows : {P : Type 0} {b : Bool} → (IsTrue b ↔ P) → b ≡ true → P
shows {P} {b} h e = h.0 (grind (arith, e))

pub denies : {P : Type 0} {b : Bool} → (IsTrue b ↔ P) → b ≡ false → ¬ P
denies {P} {b} h e = λ p. let t = h.1 p in grind (arith, e, t)

-- ---- the size of a number against a limit

pub size_above : {x : ℚ} → decimal 1 3 <ℚ x → decimal 1 3 <ℚ abs_ℚ x
size_above {x} h = lt_le h (le_abs x)

pub size_below : {x : ℚ} → x <ℚ ratio (negsuc 0) 1000 → decimal 1 3 <ℚ abs_ℚ x
size_below {x} h = lt_le (lt_by (x ∷ []) (positive_gap h) (search reads depth 90) tt) (neg_le_abs x)

pub size_within : {x : ℚ} → ¬ (decimal 1 3 <ℚ x) → ¬ (x <ℚ ratio (negsuc 0) 1000) → ¬ (decimal 1 3 <ℚ abs_ℚ x)
size_within {x} h k = not_lt (abs_le (le_by (x ∷ []) (gap (le_of_not_lt k)) (search reads depth 90) tt) (le_of_not_lt h))

pub not_above : {x : ℚ} {b : Bool} → (IsTrue b ↔ x <ℚ ratio (negsuc 0) 1000) → ¬ (decimal 1 3 <ℚ x) → IsTrue b ↔ decimal 1 3 <ℚ abs_ℚ x
not_above {x} {b} h k = (λ t. size_below (h.0 t), λ s. by_bool b h s)
  where
    by_bool : (b : Bool) → (IsTrue b ↔ x <ℚ ratio (negsuc 0) 1000) → decimal 1 3 <ℚ abs_ℚ x → IsTrue b
    by_bool true h s = grind arith
    by_bool false h s = absurd (size_within k (denies h refl) s)
