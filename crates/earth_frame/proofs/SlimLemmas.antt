-- How wide intervals are after products and sums, where the width of one argument is a variable.
use Rattle.std.proofs.Common.{◌≡◌, refl, negsuc, arith, max, unsigned_abs, ◌≤ℤ◌, ◌+ℤ◌, ◌-ℤ◌, ℕ, ◌+◌, ◌*◌, ◌^◌, ◌≤◌, [], ◌∷◌, sym, ℤ, pos, neg_ℤ, le_trans as nat_trans, le_refl}
use Rattle.std.proofs.Math.Nat.{mul-le-mul}
use Rattle.std.proofs.lemmas.Int.{ints}
use Rattle.exact.specs.Rational.{ℚ, ◌+ℚ◌, ◌-ℚ◌, ◌*ℚ◌, neg_ℚ, of_int, ratio, abs_ℚ, ◌≤ℚ◌, zero_ℚ}
use Rattle.exact.proofs.RationalRing.{reads}
use Rattle.exact.proofs.Order.{le_by, le_trans, gap, known, ◌⊕◌, ◌⊗◌}
use Rattle.exact.proofs.Bounds.{abs_le}
use Rattle.exact.proofs.Integers.{of_int_le, le_of_int, of_int_add, of_int_neg, of_int_is}
use Rattle.fixed_iv.specs.Ends.{in_units}
use Rattle.fixed_iv.specs.Extent.{AreSmall, size, width_of}
use Rattle.fixed_iv.specs.Holds.{Holds, IsBounded, IsTightest}
use Rattle.fixed_iv.specs.Results.{IsDifference, IsProduct, IsResultOf, IsSum}
use Rattle.fixed_iv.specs.declared.iv.Iv.{Iv}
use Rattle.fixed_iv.proofs.NarrowLemmas.{difference_narrow, measured_of, product_narrow, sum_narrow}
use Rattle.fixed_iv.proofs.WidthLemmas.{IsSized, high_over, low_under, natural, natural_add, natural_mul, sized, sized_product, tight_bounded, tight_width}
use Rattle.earth_frame.specs.HalfTurns.{IsWithinTurn}
use Rattle.earth_frame.specs.Slim.{IsSlim}
use Rattle.earth_frame.specs.Spread.{IsUnitWide}
use Rattle.fixed_iv.proofs.EndLemmas.{at}
use Rattle.fixed_iv.proofs.HoldsLemmas.{holds_low}
use Rattle.fixed_iv.proofs.OuterLemmas.{width_is}

-- ---- numbers of at most so many units
pub record IsLittle (most : ℕ) (x : ℚ) : Type 0 where
  pub low : neg_ℚ (natural most) ≤ℚ in_units x
  pub high : in_units x ≤ℚ natural most

pub little_small : (most : ℕ) (x : ℚ) → most ≤ 32000 * 281474976710656 → IsLittle most x → abs_ℚ x ≤ℚ ratio (pos 32000) 1
little_small most x k h =
    let top : natural most ≤ℚ ratio (pos 9007199254740992000) 1 = rw (sym (of_int_is (pos 9007199254740992000))) (of_int_le (omega (arith, ints, k))) in
    abs_le (le_by (x ∷ natural most ∷ []) (known 1 281474976710656 ⊗ (gap top ⊕ gap h.low)) (search reads depth 90) tt)
    (le_by (x ∷ natural most ∷ []) (known 1 281474976710656 ⊗ (gap top ⊕ gap h.high)) (search reads depth 90) tt)

pub little_le : {s : ℕ} (most : ℕ) {x : ℚ} → s ≤ most → IsSized (natural s) (in_units x) → IsLittle most x
little_le {s} most {x} h k =
    let top : natural s ≤ℚ natural most = of_int_le (omega (arith, ints, h)) in
    record {
      low = le_by (natural s ∷ natural most ∷ x ∷ []) (gap top ⊕ gap k.low) (search reads depth 90) tt;
      high = le_trans k.high top;
    }

pub little_product : (s t most : ℕ) (x y : ℚ) → s * t ≤ most * 281474976710656 → IsSized (natural s) (in_units x) → IsSized (natural t) (in_units y) → IsLittle most (x *ℚ y)
little_product s t most x y h k l =
    let top : natural s *ℚ natural t ≤ℚ natural most *ℚ natural 281474976710656 = products (of_int_le (omega (arith, ints, h))) in
    record {
      low = le_by (natural s ∷ natural t ∷ natural most ∷ x ∷ y ∷ []) (known 1 281474976710656 ⊗ (gap (scale top) ⊕ gap (sized_product (opposite _ _ k) l))) (search reads depth 90) tt;
      high = le_by (natural s ∷ natural t ∷ natural most ∷ x ∷ y ∷ []) (known 1 281474976710656 ⊗ (gap (scale top) ⊕ gap (sized_product k l))) (search reads depth 90) tt;
    }
  where
    products : of_int (pos (s * t)) ≤ℚ of_int (pos (most * 281474976710656)) → natural s *ℚ natural t ≤ℚ natural most *ℚ natural 281474976710656
    products e = rw (sym (natural_mul s t), sym (natural_mul most 281474976710656)) e

    scale : natural s *ℚ natural t ≤ℚ natural most *ℚ natural 281474976710656 → natural s *ℚ natural t ≤ℚ natural most *ℚ ratio (pos 281474976710656) 1
    scale e = rw (of_int_is (pos 281474976710656)) at e

    opposite : (s u : ℚ) → IsSized s u → IsSized s (neg_ℚ u)
    opposite s u h = record {
      low = le_by (s ∷ u ∷ []) (gap h.high) (search reads depth 90) tt;
      high = le_by (s ∷ u ∷ []) (gap h.low) (search reads depth 90) tt;
    }

pub little_sum : (s t most : ℕ) (x y : ℚ) → s + t ≤ most → IsLittle s x → IsLittle t y → IsLittle most (x +ℚ y)
little_sum s t most x y h k l =
    let top : natural s +ℚ natural t ≤ℚ natural most = sums (of_int_le (omega (arith, ints, h))) in
    record {
      low = le_by (natural s ∷ natural t ∷ natural most ∷ x ∷ y ∷ []) (gap top ⊕ gap k.low ⊕ gap l.low) (search reads depth 90) tt;
      high = le_by (natural s ∷ natural t ∷ natural most ∷ x ∷ y ∷ []) (gap top ⊕ gap k.high ⊕ gap l.high) (search reads depth 90) tt;
    }
  where
    sums : of_int (pos (s + t)) ≤ℚ of_int (pos most) → natural s +ℚ natural t ≤ℚ natural most
    sums e = rw (sym (natural_add s t)) e

pub little_neg : (s : ℕ) (x : ℚ) → IsLittle s x → IsLittle s (neg_ℚ x)
little_neg s x h = record {
  low = le_by (natural s ∷ x ∷ []) (gap h.high) (search reads depth 90) tt;
  high = le_by (natural s ∷ x ∷ []) (gap h.low) (search reads depth 90) tt;
}

-- ---- sizes from ends
at_most : (z : ℤ) (m : ℕ) → neg_ℤ (pos m) ≤ℤ z → z ≤ℤ pos m → unsigned_abs z ≤ m
at_most (pos z) m l h = omega (arith, ints)
at_most (negsuc z) m l h = omega (arith, ints)

pub from_ends : (lo hi : ℤ) (m : ℕ) → lo ≤ℤ hi → neg_ℤ (pos m) ≤ℤ lo → hi ≤ℤ pos m → max (unsigned_abs lo) (unsigned_abs hi) ≤ m
from_ends lo hi m o l h = omega (arith, ints, at_most lo m l (omega (arith, ints, o, h)), at_most hi m (omega (arith, ints, o, l)) h)

-- ---- an interval that is the tightest of such numbers
tight_size : {numbers : ℚ → Type 0} {v : Iv} (most : ℕ) {x : ℚ} → IsTightest numbers v → IsBounded v → numbers x → ((y : ℚ) → numbers y → IsLittle most y) → size v ≤ most
tight_size {v = v} most {x} t b n all =
    from_ends v.lo v.hi most v.ordered
    (low_under (neg_ℤ (pos most)) t b n (λ y k. rw of_int_neg (all y k).low))
    (high_over (pos most) t b n (λ y k. (all y k).high))

-- of one number
pub slim_number : {w most : ℕ} {v : Iv} (x : ℚ) → IsTightest (λ y. y ≡ x) v → most ≤ 32000 * 281474976710656 → IsLittle most x → IsSlim w most 2000 0 v
slim_number {w} {most} {v} x t m h =
    let all : (y : ℚ) → y ≡ x → IsLittle most y = λ y e. rw e h in
    let b = tight_bounded t (λ y e. little_small most y m (all y e)) in
    record {
      bounded = b;
      size = tight_size most t b refl all;
      width = two v.lo v.hi (width_is v) (tight_width zero_ℚ t b refl same);
    }
  where
    same : (y z : ℚ) → y ≡ x → z ≡ x → in_units y ≤ℚ in_units z +ℚ zero_ℚ
    same y z e f = rw (e, f) (le_by (x ∷ []) (known 0 1) (search reads depth 90) tt)

    two : (lo hi : ℤ) {n : ℕ} → pos n ≡ hi -ℤ lo → of_int hi ≤ℚ of_int lo +ℚ zero_ℚ +ℚ ratio (pos 2) 1 → n * 1000 ≤ 2000 + 0 * w
    two lo hi {n} e h =
        let f : hi ≤ℤ (lo +ℤ pos 2) = le_of_int (rw (of_int_add, of_int_is (pos 2)) (le_by (of_int lo ∷ of_int hi ∷ []) (gap h) (search reads depth 90) tt)) in
        omega (arith, ints, e, f)

-- ---- products
pub product_width : (w s k d t l e m f n x y p q : ℕ) → x ≤ s → y ≤ t → p * 1000 ≤ k + d * w → q * 1000 ≤ l + e * w →
    s * l + t * k + 2000 * 281474976710656 ≤ m * 281474976710656 → s * e + t * d ≤ f * 281474976710656 →
    n * 2 ^ 48 ≤ x * q + y * p + 2 * 2 ^ 48 → n * 1000 ≤ m + f * w
product_width w s k d t l e m f n x y p q hx hy hp hq fixed slope h =
    let u : x * (q * 1000) ≤ s * (l + e * w) = mul-le-mul hx hq in
    let z : y * (p * 1000) ≤ t * (k + d * w) = mul-le-mul hy hp in
    let g : (s * e + t * d) * w ≤ (f * 281474976710656) * w = mul-le-mul slope (le_refl w) in
    omega (arith, h, u, z, g, fixed)

pub slim_product : {a b v : Iv} {w s k d t l e : ℕ} (most m f : ℕ) → IsProduct a b v → IsSlim w s k d a → IsSlim w t l e b →
    s * t ≤ most * 281474976710656 → most ≤ 32000 * 281474976710656 →
    s * l + t * k + 2000 * 281474976710656 ≤ m * 281474976710656 → s * e + t * d ≤ f * 281474976710656 → IsSlim w most m f v
slim_product {a} {b} {v} {w} {s} {k} {d} {t} {l} {e} most m f p ha hb room top fixed slope =
    let tight = p.bounded ha.bounded hb.bounded in
    let bounded = tight_bounded tight (λ y n. little_small _ y top (little y n)) in
    record {
      bounded = bounded;
      size = tight_size most tight bounded some little;
      width = product_width w s k d t l e m f (width_of v) (size a) (size b) (width_of a) (width_of b) ha.size hb.size ha.width hb.width fixed slope
          ((product_narrow p).spread (measured_of a ha.bounded, measured_of b hb.bounded) bounded);
    }
  where
    some : IsResultOf ◌*ℚ◌ a b (at a.lo *ℚ at b.lo)
    some = record { left = at a.lo; right = at b.lo; of_left = holds_low a; of_right = holds_low b; is = refl }

    little : (y : ℚ) → IsResultOf ◌*ℚ◌ a b y → IsLittle most y
    little y r = rw r.is (little_product (size a) (size b) most r.left r.right (nat_trans (mul-le-mul ha.size hb.size) room) (sized ha.bounded r.of_left) (sized hb.bounded r.of_right))

-- ---- sums and differences
pub sum_width : (w n p q k d l e : ℕ) → p * 1000 ≤ k + d * w → q * 1000 ≤ l + e * w → n ≤ p + q → n * 1000 ≤ (k + l) + (d + e) * w
sum_width w n p q k d l e hp hq h = omega (arith, hp, hq, h)

pub slim_sum : {a b v : Iv} {w s k d t l e : ℕ} → IsSum a b v → IsSlim w s k d a → IsSlim w t l e b → s + t ≤ 32000 * 281474976710656 → IsSlim w (s + t) (k + l) (d + e) v
slim_sum {a} {b} {v} {w} {s} {k} {d} {t} {l} {e} p ha hb top =
    let bounded = tight_bounded p (λ y n. little_small _ y top (little y n)) in
    record {
      bounded = bounded;
      size = tight_size (s + t) p bounded some little;
      width = sum_width w (width_of v) (width_of a) (width_of b) k d l e ha.width hb.width
          ((sum_narrow p).spread (measured_of a ha.bounded, measured_of b hb.bounded) bounded);
    }
  where
    some : IsResultOf ◌+ℚ◌ a b (at a.lo +ℚ at b.lo)
    some = record { left = at a.lo; right = at b.lo; of_left = holds_low a; of_right = holds_low b; is = refl }

    little : (y : ℚ) → IsResultOf ◌+ℚ◌ a b y → IsLittle (s + t) y
    little y r = rw r.is (little_sum s t (s + t) r.left _ (le_refl (s + t)) (little_le s ha.size (sized ha.bounded r.of_left)) (little_le t hb.size (sized hb.bounded r.of_right)))

pub slim_difference : {a b v : Iv} {w s k d t l e : ℕ} → IsDifference a b v → IsSlim w s k d a → IsSlim w t l e b → s + t ≤ 32000 * 281474976710656 → IsSlim w (s + t) (k + l) (d + e) v
slim_difference {a} {b} {v} {w} {s} {k} {d} {t} {l} {e} p ha hb top =
    let bounded = tight_bounded p (λ y n. little_small _ y top (little y n)) in
    record {
      bounded = bounded;
      size = tight_size (s + t) p bounded some little;
      width = sum_width w (width_of v) (width_of a) (width_of b) k d l e ha.width hb.width
          ((difference_narrow p).spread (measured_of a ha.bounded, measured_of b hb.bounded) bounded);
    }
  where
    some : IsResultOf ◌-ℚ◌ a b (at a.lo -ℚ at b.lo)
    some = record { left = at a.lo; right = at b.lo; of_left = holds_low a; of_right = holds_low b; is = refl }

    little : (y : ℚ) → IsResultOf ◌-ℚ◌ a b y → IsLittle (s + t) y
    little y r = rw r.is (little_sum s t (s + t) r.left _ (le_refl (s + t)) (little_le s ha.size (sized ha.bounded r.of_left)) (little_neg t r.right (little_le t hb.size (sized hb.bounded r.of_right))))

-- every number of the interval is small
pub slim_small : {w s k d : ℕ} {v : Iv} → s ≤ 32000 * 281474976710656 → IsSlim w s k d v → AreSmall (Holds v)
slim_small {s = s} top h z n = little_small s z top (little_le s h.size (sized h.bounded n))

-- an interval between -1 and 1
pub slim_unit : {v : Iv} → IsUnitWide v → IsSlim (width_of v) 281474976710656 0 1000 v
slim_unit {v} h = record {
  bounded = record { low = omega (arith, ints, h.low); high = omega (arith, ints, h.high) };
  size = from_ends v.lo v.hi 281474976710656 v.ordered h.low h.high;
  width = omega arith;
}

-- an interval of at most two units between 0 and 2
pub slim_turn : {w : ℕ} {v : Iv} → IsWithinTurn v → IsSlim w 562949953421312 2000 0 v
slim_turn {w} {v} h = record {
  bounded = record { low = omega (arith, ints, h.low); high = omega (arith, ints, h.high) };
  size = from_ends v.lo v.hi 562949953421312 v.ordered (omega (arith, ints, h.low)) h.high;
  width = thousand (width_of v) (unit v.lo v.hi (width_is v) h.narrow);
}
  where
    unit : (lo hi : ℤ) {n : ℕ} → pos n ≡ hi -ℤ lo → hi ≤ℤ (lo +ℤ pos 2) → n ≤ 2
    unit lo hi e h = omega (arith, ints, e, h)

    thousand : (n : ℕ) → n ≤ 2 → n * 1000 ≤ 2000 + 0 * w
    thousand n h = omega (arith, h)

-- the same for a width that is no less
pub slim_wider : {w u s k d : ℕ} {v : Iv} → w ≤ u → IsSlim w s k d v → IsSlim u s k d v
slim_wider {w} {u} {s} {k} {d} {v} h a = record { bounded = a.bounded; size = a.size; width = more (mul-le-mul (le_refl d) h) }
  where
    more : d * w ≤ d * u → width_of v * 1000 ≤ k + d * u
    more q = omega (arith, q, a.width)
