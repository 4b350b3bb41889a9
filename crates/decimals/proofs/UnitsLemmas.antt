-- Decimals in units of 10^-18.
use Rattle.std.proofs.Common.{◌≡◌, arith, ℕ, zero, suc, pred, ◌+◌, ◌-◌, ◌*◌, ◌^◌, ◌<◌, ◌≤◌, ap, sym, subst, refl, ◌∙◌, ◌∷◌, [], ◌↔◌, IsTrue, FitsSigned, to_z, of_z, int_lt, unsigned_abs, Bool, true, false, le-ltb, mul-pos}
use Rattle.std.specs.Int.{w128}
use Rattle.std.proofs.lemmas.Int.{ints, unsigned_abs-mul, to_z-of_z, fits_signed_mul, fits_signed_from_abs}
use Rattle.std.proofs.lemmas.Nat.{pow-add}
use Rattle.std.proofs.Math.Nat.{suc-pred-eq_of_pos, one-le-pow, pow-le-pow_right, zero-lt-suc}
use Rattle.std.specs.declared.cmp.Ordering.{Ordering}
use Rattle.std.specs.declared.cmp.Ordering.TheVariants.{Less, Equal, Greater}
use Rattle.std.specs.Ordering.{MatchOrdering, int_cmp, int_eq, is_eq}
use Rattle.std.specs.Cmp.{int_ranks}
use lib.IntN.{ℤ, pos, negsuc, neg_ℤ, ◌*ℤ◌}
use lib.Signed.{◌≤ℤ◌, ◌<ℤ◌}
use Rattle.algebra.proofs.IntRing.{ring_ℤ, reads_ℤ}
use Rattle.exact.specs.Rational.{glue, ratio, of_int, ◌≤ℚ◌, ◌<ℚ◌, number}
use Rattle.exact.proofs.Order.{le_refl}
use Rattle.exact.proofs.Fractions.{cross_of_le}
use Rattle.decimals.specs.Decimal.{DecimalRecord, value, IsDecimal}
use Rattle.decimals.specs.Normal.{normal, shortest, signed}
use Rattle.decimals.specs.Order.{order, same}
use Rattle.decimals.specs.Units.{units}
use Rattle.decimals.proofs.NormalLemmas.{shortest-filled, shortest_splits}
use Rattle.decimals.specs.OrderLaws.{lt_of_not_le, same_Decides}
use Rattle.decimals.proofs.OrderLemmas.{order_is}

pub ten_pow_pos : (k : ℕ) → 0 < 10 ^ k
ten_pow_pos k = one-le-pow k 10 (omega arith)

pub ten_pow_fits : (k : ℕ) → k ≤ 18 → 10 ^ k ≤ 1000000000000000000
ten_pow_fits k h = pow-le-pow_right {n = 10} (omega arith) h

two_parts : (p : ℕ) → p ≤ 18 → 10 ^ (18 - p) * suc (pred (10 ^ p)) ≡ suc (pred (10 ^ 18))
two_parts p h =
    let e : 18 - p + p ≡ 18 = omega arith in
    rw (suc-pred-eq_of_pos (ten_pow_pos p), ← pow-add 10 (18 - p) p, e) refl

regroup : (n a b : ℤ) → (n *ℤ a) *ℤ b ≡ n *ℤ (a *ℤ b)
regroup n a b = ring_ℤ (n ∷ a ∷ b ∷ []) (search reads_ℤ depth 20) tt

-- a decimal's number, by its units
pub value_by_units : (d : DecimalRecord) → d.places ≤ 18 → value d ≡ ratio (units d) (10 ^ 18)
unfolding value units ratio
value_by_units d h = glue _ _ (sym (regroup d.digits (pos (10 ^ (18 - d.places))) (pos (suc (pred (10 ^ d.places)))) ∙ ap (λ t. d.digits *ℤ pos t) (two_parts d.places h)))

-- numbers of units stand as the numbers
le_units : (a b : ℤ) → ratio a (10 ^ 18) ≤ℚ ratio b (10 ^ 18) → a ≤ℤ b
unfolding ratio number
le_units a b h =
    let k = cross_of_le (record { num = a; den = suc (pred (10 ^ 18)); fits = zero-lt-suc _ }) (record { num = b; den = suc (pred (10 ^ 18)); fits = zero-lt-suc _ }) h in
    omega (arith, ints, k)

lt_units : (a b : ℤ) → a <ℤ b → ratio a (10 ^ 18) <ℚ ratio b (10 ^ 18)
lt_units a b h = lt_of_not_le _ _ (λ k. let back : b ≤ℤ a = le_units b a k in omega (arith, ints))

rank_of_units : (a b : ℤ) (r : Ordering) → MatchOrdering r (a <ℤ b) (a ≡ b) (b <ℤ a) → MatchOrdering r (ratio a (10 ^ 18) <ℚ ratio b (10 ^ 18)) (ratio a (10 ^ 18) ≡ ratio b (10 ^ 18)) (ratio b (10 ^ 18) <ℚ ratio a (10 ^ 18))
rank_of_units a b Less h = lt_units a b h
rank_of_units a b Equal h = ap (λ t. ratio t (10 ^ 18)) h
rank_of_units a b Greater h = lt_units b a h

pub order_by_units : (a b : DecimalRecord) → a.places ≤ 18 → b.places ≤ 18 → int_cmp (units a) (units b) ≡ order (value a) (value b)
order_by_units a b h k =
    rw (value_by_units a h, value_by_units b k) (order_is _ _ _ (rank_of_units (units a) (units b) (int_cmp (units a) (units b)) (int_ranks (units a) (units b))))

units_same : (a b : ℤ) → ratio a (10 ^ 18) ≡ ratio b (10 ^ 18) → a ≡ b
units_same a b e =
    let h : a ≤ℤ b = le_units a b (subst (λ t. ratio a (10 ^ 18) ≤ℚ t) e (le_refl _)) in
    let k : b ≤ℤ a = le_units b a (subst (λ t. t ≤ℚ ratio a (10 ^ 18)) e (le_refl _)) in
    omega (arith, ints)

-- equal numbers are as many units
pub units_of_equal : (a b : DecimalRecord) → a.places ≤ 18 → b.places ≤ 18 → value a ≡ value b → units a ≡ units b
units_of_equal a b h k e = units_same _ _ (sym (value_by_units a h) ∙ e ∙ value_by_units b k)

-- ---- the way back from units

below_0-product : (n : ℤ) (k : ℕ) → 0 < k → int_lt (n *ℤ pos k) (pos 0) ≡ int_lt n (pos 0)
below_0-product (pos n) k h = le-ltb (n * k) 0 (omega arith) ∙ sym (le-ltb n 0 (omega arith))
below_0-product (negsuc n) k h = below_0-neg (suc n * k) (mul-pos (zero-lt-suc n) h)
  where
    below_0-neg : (m : ℕ) → 0 < m → int_lt (neg_ℤ (pos m)) (pos 0) ≡ true
    below_0-neg zero h = absurd (omega arith)
    below_0-neg (suc m) h = refl

-- a number is its sign and its size
pub signed_size : (n : ℤ) → signed (int_lt n (pos 0)) (unsigned_abs n) ≡ n
signed_size (pos n) = rw (le-ltb n 0 (omega arith)) refl
signed_size (negsuc n) = refl

-- a decimal is the normal form of its units
pub normal-units : (d : DecimalRecord) → IsDecimal d → normal (units d) 18 ≡ d
unfolding units
normal-units d is =
    let scale = 10 ^ (18 - d.places) in
    rw (below_0-product d.digits scale (ten_pow_pos (18 - d.places)), unsigned_abs-mul d.digits (pos scale), shortest-filled (unsigned_abs d.digits) d.places 18 is.most_places is.last_digit, signed_size) refl

-- equal numbers are equal decimals
pub equal_values : (a b : DecimalRecord) → IsDecimal a → IsDecimal b → value a ≡ value b → a ≡ b
equal_values a b h k e =
    sym (normal-units a h) ∙ ap (λ t. normal t 18) (units_of_equal a b h.most_places k.most_places e) ∙ normal-units b k

-- decimals of as many units are one, and so are their numbers
pub same_by_units : (a b : DecimalRecord) → IsDecimal a → IsDecimal b → int_eq (units a) (units b) ≡ same (value a) (value b)
same_by_units a b h k = ap is_eq (order_by_units a b h.most_places k.most_places)

pub same_as_equal : (a b : DecimalRecord) → IsDecimal a → IsDecimal b → IsTrue (same (value a) (value b)) ↔ a ≡ b
same_as_equal a b h k =
    (λ t. equal_values a b h k ((same_Decides (value a) (value b)).0 t), λ e. (same_Decides (value a) (value b)).1 (ap value e))

-- the product as the code computes it
pub product_in_code : (n f g : ℤ) (m : ℕ) → unsigned_abs n < 10 ^ 18 → m ≤ 10 ^ 18 → f ≡ n → g ≡ pos m → to_z w128 (of_z w128 (to_z w128 (of_z w128 f) *ℤ to_z w128 (of_z w128 g))) ≡ n *ℤ pos m
product_in_code n f g m small most is_n is_m =
    let fits : FitsSigned w128 (n *ℤ pos m) = fits_signed_mul w128 n (pos m) (10 ^ 18) (10 ^ 18) (omega arith) most (omega arith) in
    let fits_n : FitsSigned w128 n = fits_signed_from_abs w128 n (omega arith) in
    let fits_m : FitsSigned w128 (pos m) = fits_signed_from_abs w128 (pos m) (omega arith) in
    rw (is_n, is_m, to_z-of_z w128 n fits_n, to_z-of_z w128 (pos m) fits_m, to_z-of_z w128 (n *ℤ pos m) fits) refl

-- ---- what the makers make

-- the number of a decimal without places is whole
pub value_whole : (n : ℤ) → value (record { digits = n; places = 0 }) ≡ of_int n
unfolding value of_int
value_whole n = refl

times_power : (n r : ℤ) (a b : ℕ) → n ≡ r → r *ℤ pos (a * b) ≡ (n *ℤ pos a) *ℤ pos b
times_power n r a b e = rw e (sym (regroup r (pos a) (pos b)))

-- zeros at the end of the fraction change no number
pub ratio_times : (n : ℤ) (p j : ℕ) → ratio (n *ℤ pos (10 ^ j)) (10 ^ (p + j)) ≡ ratio n (10 ^ p)
unfolding ratio
ratio_times n p j =
    glue _ _ (rw (suc-pred-eq_of_pos (ten_pow_pos p), suc-pred-eq_of_pos (ten_pow_pos (p + j)), pow-add 10 p j) (regroup n (pos (10 ^ j)) (pos (10 ^ p)) ∙ ap (λ t. n *ℤ pos t) (omega arith)))

pub signed_times : (minus : Bool) (n k : ℕ) → signed minus (n * k) ≡ signed minus n *ℤ pos k
signed_times true zero k = let e : 0 * k ≡ 0 = omega arith in rw e refl
signed_times true (suc n) k = refl
signed_times false n k = refl

-- the normal form is the same number
pub value_normal : (n : ℤ) (p : ℕ) → value (normal n p) ≡ ratio n (10 ^ p)
unfolding value
value_normal n p =
    let short = shortest (unsigned_abs n) p in
    let minus = int_lt n (pos 0) in
    let parts = shortest_splits (unsigned_abs n) p in
    let whole : n ≡ signed minus short.0 *ℤ pos (10 ^ parts.0) =
    sym (signed_size n) ∙ ap (signed minus) parts.1 ∙ signed_times minus short.0 (10 ^ parts.0) in
    sym (ap (λ t. ratio t (10 ^ p)) whole ∙ ap (λ t. ratio (signed minus short.0 *ℤ pos (10 ^ parts.0)) (10 ^ t)) parts.2 ∙ ratio_times (signed minus short.0) short.1 parts.0)
