-- Quotients of held numbers, as quotients between the ends, and the operator's contract.
use Rattle.std.proofs.Common.{◌≡◌, ◌∙◌, ap, sym, subst, [], ◌∷◌, arith, ℤ, pos, ◌≤ℤ◌, ◌<ℤ◌, neg_ℤ}
use Rattle.std.proofs.lemmas.Int.{ints}
use Rattle.exact.specs.Rational.{ℚ, ratio, of_int, inverse, ◌*ℚ◌, ◌/ℚ◌, neg_ℚ, zero_ℚ, one_ℚ, ◌≤ℚ◌}
use Rattle.exact.proofs.RationalRing.{ring, reads}
use Rattle.exact.proofs.Order.{gap, le_by}
use Rattle.exact.proofs.Strict.{Positive, mul_inverse, not_zero}
use Rattle.exact.proofs.Integers.{of_int_is, of_int_neg, of_int_le, le_of_int}
use Rattle.fixed_iv.specs.Corners.{IsQuotientBetween}
use Rattle.fixed_iv.specs.Ends.{in_units}
use Rattle.fixed_iv.specs.Holds.{Holds, IsBounded, IsTightest}
use Rattle.fixed_iv.specs.Results.{IsResultOf, IsQuotient}
use Rattle.fixed_iv.specs.declared.iv.Iv.{Iv}
use Rattle.fixed_iv.proofs.QuotientLemmas.{positive_divisor}

-- ---- quotients of held numbers are quotients between the ends
quotient_is : {x left right : ℚ} → ¬ (right ≡ zero_ℚ) → x *ℚ right ≡ left → x ≡ left /ℚ right
quotient_is {x} {left} {right} n e =
    ring (x ∷ []) {y = x *ℚ one_ℚ} (search reads depth 90) tt
    ∙ ap (λ t. x *ℚ t) (sym (mul_inverse right n))
    ∙ ring (x ∷ right ∷ inverse right ∷ []) {y = (x *ℚ right) *ℚ inverse right} (search reads depth 90) tt
    ∙ ap (λ t. t *ℚ inverse right) e

pub is_quotient : {x left right : ℚ} → ¬ (right ≡ zero_ℚ) → x ≡ left /ℚ right → x *ℚ right ≡ left
is_quotient {x} {left} {right} n e =
    ap (λ t. t *ℚ right) e
    ∙ ring (left ∷ right ∷ inverse right ∷ []) {y = left *ℚ (right *ℚ inverse right)} (search reads depth 90) tt
    ∙ ap (λ t. left *ℚ t) (mul_inverse right n)
    ∙ ring (left ∷ []) (search reads depth 90) tt

tightest_same : {numbers others : ℚ → Type 0} {v : Iv} → ((x : ℚ) → others x → numbers x) → ((x : ℚ) → numbers x → others x) → IsTightest numbers v → IsTightest others v
tightest_same to back h = record {
  holds = λ x o. h.holds x (to x o);
  inside = λ other all. h.inside other (λ x n. all x (back x n));
}

unit : ℚ
unit = ratio (pos 1) 281474976710656

pub units_not_zero : {y : ℚ} → Positive (in_units y) → ¬ (y ≡ zero_ℚ)
units_not_zero {y} p e = not_zero p (ap in_units e ∙ ring [] (search reads depth 90) tt)

pub negative_units_not_zero : {y : ℚ} → Positive (neg_ℚ (in_units y)) → ¬ (y ≡ zero_ℚ)
negative_units_not_zero {y} p e = not_zero p (ap (λ t. neg_ℚ (in_units t)) e ∙ ring [] (search reads depth 90) tt)

in_units-unit : (y : ℚ) → in_units (y *ℚ unit) ≡ y
unfolding unit
in_units-unit y = ring (y ∷ []) (search reads depth 90) tt

zero_units : in_units zero_ℚ ≡ of_int (pos 0)
zero_units = ring [] {y = zero_ℚ} (search reads depth 90) tt ∙ sym (of_int_is (pos 0))

pub times_units : (x right : ℚ) {left : ℚ} → x *ℚ right ≡ left → x *ℚ in_units right ≡ in_units left
times_units x right {left} e = ring (x ∷ right ∷ []) {y = in_units (x *ℚ right)} (search reads depth 90) tt ∙ ap in_units e

by_unit : (x right : ℚ) {left : ℚ} → x *ℚ right ≡ left → x *ℚ (right *ℚ unit) ≡ left *ℚ unit
by_unit x right {left} e = ring (x ∷ right ∷ unit ∷ []) {y = (x *ℚ right) *ℚ unit} (search reads depth 90) tt ∙ ap (λ t. t *ℚ unit) e

times_neg : (x right : ℚ) {left : ℚ} → x *ℚ right ≡ left → x *ℚ neg_ℚ right ≡ neg_ℚ left
times_neg x right {left} e = ring (x ∷ right ∷ []) {y = neg_ℚ (x *ℚ right)} (search reads depth 90) tt ∙ ap neg_ℚ e

le_unit : (n : ℤ) {y : ℚ} → of_int n ≤ℚ y → of_int n ≤ℚ in_units (y *ℚ unit)
le_unit n {y} h = subst (λ t. of_int n ≤ℚ t) (sym (in_units-unit y)) h

unit_le : (n : ℤ) {y : ℚ} → y ≤ℚ of_int n → in_units (y *ℚ unit) ≤ℚ of_int n
unit_le n {y} h = subst (λ t. t ≤ℚ of_int n) (sym (in_units-unit y)) h

neg_of : (n : ℤ) {y : ℚ} → y ≤ℚ of_int n → of_int (neg_ℤ n) ≤ℚ neg_ℚ y
neg_of n {y} h = rw of_int_neg (le_by (of_int n ∷ y ∷ []) (gap h) (search reads depth 90) tt)

of_neg : (n : ℤ) {y : ℚ} → of_int n ≤ℚ y → neg_ℚ y ≤ℚ of_int (neg_ℤ n)
of_neg n {y} h = rw of_int_neg (le_by (of_int n ∷ y ∷ []) (gap h) (search reads depth 90) tt)

below_neg : (n : ℤ) {y : ℚ} → y ≤ℚ of_int (neg_ℤ n) → of_int n ≤ℚ neg_ℚ y
below_neg n {y} h = le_by (of_int n ∷ y ∷ []) (gap (rw of_int_neg at h)) (search reads depth 90) tt

neg_below : (n : ℤ) {y : ℚ} → of_int (neg_ℤ n) ≤ℚ y → neg_ℚ y ≤ℚ of_int n
neg_below n {y} h = le_by (of_int n ∷ y ∷ []) (gap (rw of_int_neg at h)) (search reads depth 90) tt

from_ends : (a b : Iv) → IsBounded a → IsBounded b → pos 0 <ℤ b.lo → (x : ℚ) → IsResultOf ◌/ℚ◌ a b x → IsQuotientBetween a.lo a.hi b.lo b.hi x
from_ends a b p q positive x h = record {
  dividend = in_units h.left;
  divisor = in_units h.right;
  from_low = h.of_left.low p.low;
  to_high = h.of_left.high p.high;
  from_least = h.of_right.low q.low;
  to_most = h.of_right.high q.high;
  is = times_units _ _ (is_quotient (units_not_zero (positive_divisor positive (h.of_right.low q.low))) h.is);
}

to_ends : (a b : Iv) → pos 0 <ℤ b.lo → (x : ℚ) → IsQuotientBetween a.lo a.hi b.lo b.hi x → IsResultOf ◌/ℚ◌ a b x
to_ends a b positive x h = record {
  left = h.dividend *ℚ unit;
  right = h.divisor *ℚ unit;
  of_left = record { low = λ _. le_unit _ h.from_low; high = λ _. unit_le _ h.to_high };
  of_right = record { low = λ _. le_unit _ h.from_least; high = λ _. unit_le _ h.to_most };
  is = quotient_is (units_not_zero (subst Positive (sym (in_units-unit h.divisor)) (positive_divisor positive h.from_least))) (by_unit _ _ h.is);
}

from_negatives : (a b : Iv) → IsBounded a → IsBounded b → b.hi <ℤ pos 0 → (x : ℚ) → IsResultOf ◌/ℚ◌ a b x → IsQuotientBetween (neg_ℤ a.hi) (neg_ℤ a.lo) (neg_ℤ b.hi) (neg_ℤ b.lo) x
from_negatives a b p q negative x h =
    let least = neg_of _ (h.of_right.high q.high) in
    record {
      dividend = neg_ℚ (in_units h.left);
      divisor = neg_ℚ (in_units h.right);
      from_low = neg_of _ (h.of_left.high p.high);
      to_high = of_neg _ (h.of_left.low p.low);
      from_least = least;
      to_most = of_neg _ (h.of_right.low q.low);
      is = times_neg _ _ (times_units _ _ (is_quotient (negative_units_not_zero (positive_divisor {least = neg_ℤ b.hi} (omega (arith, ints)) least)) h.is));
    }

to_negatives : (a b : Iv) → b.hi <ℤ pos 0 → (x : ℚ) → IsQuotientBetween (neg_ℤ a.hi) (neg_ℤ a.lo) (neg_ℤ b.hi) (neg_ℤ b.lo) x → IsResultOf ◌/ℚ◌ a b x
to_negatives a b negative x h = record {
  left = neg_ℚ h.dividend *ℚ unit;
  right = neg_ℚ h.divisor *ℚ unit;
  of_left = record { low = λ _. le_unit _ (below_neg _ h.to_high); high = λ _. unit_le _ (neg_below _ h.from_low) };
  of_right = record { low = λ _. le_unit _ (below_neg _ h.to_most); high = λ _. unit_le _ (neg_below _ h.from_least) };
  is = quotient_is (negative_units_not_zero (subst Positive (back h.divisor) (positive_divisor {least = neg_ℤ b.hi} (omega (arith, ints)) h.from_least))) (by_unit _ _ (times_neg _ _ h.is));
}
  where
    back : (y : ℚ) → y ≡ neg_ℚ (in_units (neg_ℚ y *ℚ unit))
    back y = ring (y ∷ []) {y = neg_ℚ (neg_ℚ y)} (search reads depth 90) tt ∙ ap neg_ℚ (sym (in_units-unit (neg_ℚ y)))

-- ---- the operator
pub zero_not_above : {b : Iv} → IsBounded b → pos 0 <ℤ b.lo → ¬ Holds b zero_ℚ
zero_not_above {b} q p h = let k = le_of_int (subst (λ t. of_int b.lo ≤ℚ t) zero_units (h.low q.low)) in omega (arith, ints, k)

pub zero_not_below : {b : Iv} → IsBounded b → b.hi <ℤ pos 0 → ¬ Holds b zero_ℚ
zero_not_below {b} q p h = let k = le_of_int (subst (λ t. t ≤ℚ of_int b.hi) zero_units (h.high q.high)) in omega (arith, ints, k)

pub holds_zero : {b : Iv} → b.lo ≤ℤ pos 0 → pos 0 ≤ℤ b.hi → Holds b zero_ℚ
holds_zero {b} p q = record {
  low = λ _. subst (λ t. of_int b.lo ≤ℚ t) (sym zero_units) (of_int_le p);
  high = λ _. subst (λ t. t ≤ℚ of_int b.hi) (sym zero_units) (of_int_le q);
}

pub by_positive : {a b v : Iv} {low high least most : ℤ} → low ≡ a.lo → high ≡ a.hi → least ≡ b.lo → most ≡ b.hi → IsBounded a → IsBounded b → pos 0 <ℤ b.lo → IsTightest (IsQuotientBetween low high least most) v → IsQuotient a b v
by_positive {a} {b} {v} e f g k p q positive h = record {
  bounded = λ _ _ _. tightest_same (from_ends a b p q positive) (to_ends a b positive) (rw (e, f, g, k) at h);
  unbounded = λ n. absurd (n (p, q));
  zero = λ z. absurd (zero_not_above q positive z);
}

pub by_negative : {a b v : Iv} {low high least most : ℤ} → low ≡ neg_ℤ a.hi → high ≡ neg_ℤ a.lo → least ≡ neg_ℤ b.hi → most ≡ neg_ℤ b.lo → IsBounded a → IsBounded b → b.hi <ℤ pos 0 → IsTightest (IsQuotientBetween low high least most) v → IsQuotient a b v
by_negative {a} {b} {v} e f g k p q negative h = record {
  bounded = λ _ _ _. tightest_same (from_negatives a b p q negative) (to_negatives a b negative) (rw (e, f, g, k) at h);
  unbounded = λ n. absurd (n (p, q));
  zero = λ z. absurd (zero_not_below q negative z);
}
