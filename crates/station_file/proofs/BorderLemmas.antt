-- Borders in units of 10^-18 degrees.
use Rattle.std.proofs.Common.{◌≡◌, ◌↔◌, arith, T, Bool, true, false, ℕ, suc, pred, ◌-◌, ◌^◌, ◌≤◌, [], ◌∷◌, refl, pos, ℤ, ◌+ℤ◌, ◌*ℤ◌, ◌≤ℤ◌, ◌<ℤ◌, subst, sym, IsTrue, unsigned_abs, to_z, of_z}
use Rattle.std.specs.Int.{w128}
use Rattle.std.proofs.lemmas.Int.{ints, unsigned_abs-mul, to_z-of_z, fits_signed_from_abs}
use Rattle.std.proofs.Math.Nat.{zero-lt-suc, mul-le-mul}
use lib.Signed.{le_z, lt_z}
use Rattle.exact.specs.Rational.{ℚ, of_int, ratio, number, ◌+ℚ◌, ◌≤ℚ◌, ◌<ℚ◌}
use Rattle.exact.proofs.Fractions.{cross_of_le, le_of_cross}
use Rattle.exact.proofs.Integers.{of_int_add, of_int_mul, of_int_is, ratio_is_product}
use Rattle.exact.proofs.RationalRing.{ring, reads}
use Rattle.decimals.specs.Decimal.{DecimalRecord, IsDecimal}
use Rattle.decimals.specs.OrderLaws.{lt_of_not_le, not_le}
use Rattle.decimals.specs.Units.{units}
use Rattle.decimals.proofs.UnitsLemmas.{product_in_code, ten_pow_fits}
use Rattle.std.specs.declared.cmp.Ordering.{Ordering}
use Rattle.std.specs.declared.cmp.Ordering.TheVariants.{Less, Equal, Greater}
use Rattle.std.specs.Ordering.{MatchOrdering, int_cmp}
use Rattle.std.specs.Cmp.{int_ranks}
use Rattle.station_file.specs.Masks.{degrees}

le_units : (a b : ℤ) → ratio a (10 ^ 18) ≤ℚ ratio b (10 ^ 18) → a ≤ℤ b
unfolding ratio number
le_units a b h =
    let k = cross_of_le (record { num = a; den = suc (pred (10 ^ 18)); fits = zero-lt-suc _ }) (record { num = b; den = suc (pred (10 ^ 18)); fits = zero-lt-suc _ }) h in
    omega (arith, ints, k)

of_units : (a b : ℤ) → a ≤ℤ b → ratio a (10 ^ 18) ≤ℚ ratio b (10 ^ 18)
unfolding ratio number
of_units a b h =
    le_of_cross (record { num = a; den = suc (pred (10 ^ 18)); fits = zero-lt-suc _ }) (record { num = b; den = suc (pred (10 ^ 18)); fits = zero-lt-suc _ }) (omega (arith, ints, h))

-- numbers stand as their units
pub units_le : (x y : ℚ) (a b : ℤ) → x ≡ ratio a (10 ^ 18) → y ≡ ratio b (10 ^ 18) → a ≤ℤ b ↔ x ≤ℚ y
units_le x y a b p q = rw (p, q) (of_units a b, le_units a b)

lt_by : (a b : ℤ) (r : Ordering) → MatchOrdering r (a <ℤ b) (a ≡ b) (b <ℤ a) → ratio a (10 ^ 18) <ℚ ratio b (10 ^ 18) → a <ℤ b
lt_by a b Less m h = m
lt_by a b Equal m h = absurd (not_le _ _ h (of_units b a (omega (arith, ints))))
lt_by a b Greater m h = absurd (not_le _ _ h (of_units b a (omega (arith, ints))))

lt_units : (a b : ℤ) → a <ℤ b → ratio a (10 ^ 18) <ℚ ratio b (10 ^ 18)
lt_units a b h = lt_of_not_le _ _ (λ k. let back : b ≤ℤ a = le_units b a k in omega (arith, ints))

pub units_lt : (x y : ℚ) (a b : ℤ) → x ≡ ratio a (10 ^ 18) → y ≡ ratio b (10 ^ 18) → a <ℤ b ↔ x <ℚ y
units_lt x y a b p q = rw (p, q) (lt_units a b, lt_by a b (int_cmp a b) (int_ranks a b))

-- whole numbers more
pub units_more : (x : ℚ) (a : ℤ) (n : ℕ) → x ≡ ratio a (10 ^ 18) → x +ℚ degrees n ≡ ratio (a +ℤ pos n *ℤ pos (10 ^ 18)) (10 ^ 18)
units_more x a n p =
    rw (p, ratio_is_product a (10 ^ 18), ratio_is_product (a +ℤ pos n *ℤ pos (10 ^ 18)) (10 ^ 18), of_int_add a (pos n *ℤ pos (10 ^ 18)), of_int_mul (pos n) (pos (10 ^ 18)), of_int_is (pos (10 ^ 18))) (ring (of_int a ∷ of_int (pos n) ∷ []) (search reads depth 90) tt)

-- a decimal has at most 10^36 units
pub units_size : (d : DecimalRecord) → IsDecimal d → unsigned_abs (units d) ≤ 10 ^ 36
unfolding units
units_size d h =
    rw (unsigned_abs-mul d.digits (pos (10 ^ (18 - d.places)))) (mul-le-mul {n₁ = unsigned_abs d.digits} {m₁ = 10 ^ (18 - d.places)} {n₂ = 10 ^ 18} {m₂ = 10 ^ 18} (omega (arith, h.size)) (ten_pow_fits (18 - d.places) (omega arith)))

-- ---- as the code computes them
in_code : (a : ℤ) → unsigned_abs a ≤ 10 ^ 37 → to_z w128 (of_z w128 a) ≡ a
in_code a h = to_z-of_z w128 a (fits_signed_from_abs w128 a (omega arith))

pub size_more : (a : ℤ) (n : ℕ) → n ≤ 360 → unsigned_abs a ≤ 10 ^ 36 → unsigned_abs (a +ℤ pos n *ℤ pos (10 ^ 18)) ≤ 10 ^ 37
size_more a n h k = omega (arith, ints)

pub more_in_code : (a f : ℤ) (n : ℕ) → n ≤ 360 → unsigned_abs a ≤ 10 ^ 36 → f ≡ pos n → to_z w128 (of_z w128 (to_z w128 (of_z w128 a) +ℤ to_z w128 (of_z w128 (to_z w128 (of_z w128 f) *ℤ pos (10 ^ 18))))) ≡ a +ℤ pos n *ℤ pos (10 ^ 18)
more_in_code a f n h k e =
    let step : unsigned_abs (pos n *ℤ pos (10 ^ 18)) ≤ 10 ^ 37 = omega (arith, ints) in
    rw (e, in_code a (omega arith), in_code (pos n) (omega (arith, ints)), in_code (pos n *ℤ pos (10 ^ 18)) step, in_code (a +ℤ pos n *ℤ pos (10 ^ 18)) (size_more a n h k)) refl

is_true : (t : Bool) → T t → t ≡ true
is_true true h = refl
is_true false h = absurd h

holds : (t : Bool) → t ≡ true → T t
holds t e = subst T (sym e) tt

pub le_in_code : (x y : ℚ) (a b : ℤ) → x ≡ ratio a (10 ^ 18) → y ≡ ratio b (10 ^ 18) → unsigned_abs a ≤ 10 ^ 37 → unsigned_abs b ≤ 10 ^ 37 → IsTrue (le_z (to_z w128 (of_z w128 a)) (to_z w128 (of_z w128 b))) ↔ x ≤ℚ y
le_in_code x y a b p q h k =
    let both = units_le x y a b p q in
    rw (in_code a h, in_code b k) (λ t. both.0 (record { le = holds (le_z a b) t }), λ t. is_true (le_z a b) (both.1 t).le)

pub lt_in_code : (x y : ℚ) (a b : ℤ) → x ≡ ratio a (10 ^ 18) → y ≡ ratio b (10 ^ 18) → unsigned_abs a ≤ 10 ^ 37 → unsigned_abs b ≤ 10 ^ 37 → IsTrue (lt_z (to_z w128 (of_z w128 a)) (to_z w128 (of_z w128 b))) ↔ x <ℚ y
lt_in_code x y a b p q h k =
    let both = units_lt x y a b p q in
    rw (in_code a h, in_code b k) (λ t. both.0 (record { lt = holds (lt_z a b) t }), λ t. is_true (lt_z a b) (both.1 t).lt)

pub units_in_code : (d : DecimalRecord) (f g : ℤ) → IsDecimal d → f ≡ d.digits → g ≡ pos (10 ^ (18 - d.places)) → to_z w128 (of_z w128 (to_z w128 (of_z w128 f) *ℤ to_z w128 (of_z w128 g))) ≡ units d
unfolding units
units_in_code d f g h is_f is_g = product_in_code d.digits f g (10 ^ (18 - d.places)) h.size (ten_pow_fits (18 - d.places) (omega arith)) is_f is_g
