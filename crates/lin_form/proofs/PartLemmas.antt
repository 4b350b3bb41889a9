-- Where covered numbers are above 0.
use lib.Signed.{le_z}
use Rattle.std.proofs.Common.{max, min, ◌⊎◌, inl, inr, ⊎_elim, ◌≡◌, true, false, ◌∙◌, arith, refl, subst, sym, ap, [], ◌∷◌, ℕ, ℤ, pos, negsuc, neg_ℤ, ◌-◌, ◌*◌, ◌/◌, ◌<◌, ◌≤◌, ◌+ℤ◌, ◌-ℤ◌, ◌*ℤ◌, ◌≤ℤ◌, ◌<ℤ◌, unsigned_abs}
use Rattle.std.proofs.Math.Nat.{div-mul-le_self, mul-le-mul, mul-le-mul_right, mul_comm, mul_left_comm, mul_assoc}
use Rattle.std.proofs.lemmas.Int.{ints}
use Rattle.algebra.proofs.IntRing.{ring_ℤ, reads_ℤ}
use Rattle.exact.specs.Rational.{ℚ, of_int, ratio, ◌+ℚ◌, ◌-ℚ◌, ◌*ℚ◌, neg_ℚ, zero_ℚ, ◌≤ℚ◌, ◌<ℚ◌}
use Rattle.exact.proofs.RationalRing.{ring, reads}
use Rattle.exact.proofs.Order.{NonNeg, gap, le_trans, same_sign, ◌⊕◌, ◌⊗◌}
use Rattle.exact.proofs.Bounds.{by_sign}
use Rattle.exact.proofs.Integers.{of_int_add, of_int_is, of_int_le, of_int_mul, of_int_neg}
use Rattle.exact.proofs.Strict.{Positive, lt_by, not_both, positive_by, positive_gap, positive_known, positive_product, positive_sum}
use Rattle.fixed_iv.specs.Ends.{in_units}
use Rattle.fixed_iv.specs.Place.{Place}
use Rattle.lin_form.specs.Covered.{on_slope}
use Rattle.lin_form.specs.Parts.{IsAboveAfter, IsAmongFirst}

-- ---- tests of the code's
pub over_test : (a b : ℤ) → le_z a b ≡ false → b <ℤ a
over_test a b e = grind arith

pub under_test : (a b : ℤ) → le_z a b ≡ true → a ≤ℤ b
under_test a b e = grind arith

-- ---- whole numbers
size_above : (z : ℤ) → pos 0 <ℤ z → pos (unsigned_abs z) ≡ z
size_above (pos n) h = refl
size_above (negsuc n) h = absurd (omega (arith, ints, h))

size_below : (z : ℤ) → z <ℤ pos 0 → z ≡ neg_ℤ (pos (unsigned_abs z))
size_below (pos n) h = absurd (omega (arith, ints, h))
size_below (negsuc n) h = refl

-- a line that begins at the height a over s, and falls by less than that in so many parts
above_after : (m s : ℤ) (a b p k : ℕ) → pos a ≡ m -ℤ s → s ≡ neg_ℤ (pos b) → k * (2 * b) < a * p → IsAboveAfter m s k p
above_after m s a b p k is falls less = subst (λ t. pos 0 <ℤ t) (sym (rearranged ∙ in_a ∙ in_b ∙ in_both)) positive
  where
    rearranged : pos p *ℤ m +ℤ (pos (2 * k) -ℤ pos p) *ℤ s ≡ pos p *ℤ (m -ℤ s) +ℤ pos (2 * k) *ℤ s
    rearranged = shifted (pos p) m s (pos (2 * k))
      where
        shifted : (p m s t : ℤ) → p *ℤ m +ℤ (t -ℤ p) *ℤ s ≡ p *ℤ (m -ℤ s) +ℤ t *ℤ s
        shifted p m s t = ring_ℤ (p ∷ m ∷ s ∷ t ∷ []) (search reads_ℤ depth 40) tt

    in_a : pos p *ℤ (m -ℤ s) +ℤ pos (2 * k) *ℤ s ≡ pos p *ℤ pos a +ℤ pos (2 * k) *ℤ s
    in_a = ap (λ t. pos p *ℤ t +ℤ pos (2 * k) *ℤ s) (sym is)

    in_b : pos p *ℤ pos a +ℤ pos (2 * k) *ℤ s ≡ pos p *ℤ pos a +ℤ pos (2 * k) *ℤ neg_ℤ (pos b)
    in_b = ap (λ t. pos p *ℤ pos a +ℤ pos (2 * k) *ℤ t) falls

    in_both : pos p *ℤ pos a +ℤ pos (2 * k) *ℤ neg_ℤ (pos b) ≡ pos (p * a) +ℤ neg_ℤ (pos (2 * k * b))
    in_both = opposite (pos p) (pos a) (pos (2 * k)) (pos b)
      where
        opposite : (p a t b : ℤ) → p *ℤ a +ℤ t *ℤ neg_ℤ b ≡ p *ℤ a +ℤ neg_ℤ (t *ℤ b)
        opposite p a t b = ring_ℤ (p ∷ a ∷ t ∷ b ∷ []) (search reads_ℤ depth 40) tt

    positive : pos 0 <ℤ (pos (p * a) +ℤ neg_ℤ (pos (2 * k * b)))
    positive =
        let e : a * p ≡ p * a = mul_comm a p in
        let f : k * (2 * b) ≡ 2 * k * b = mul_left_comm k 2 b ∙ sym (mul_assoc 2 k b) in
        omega (arith, ints, less, e, f)

-- so many parts of a height that stand at most once in it
stands_below : (height fall count k : ℕ) → 1 ≤ height → count ≡ (height - 1) / fall → k ≤ count → k * fall < height
stands_below height fall count k some is at_most =
    let f : count * fall ≤ height - 1 = subst (λ t. t * fall ≤ height - 1) (sym is) (div-mul-le_self (height - 1) fall) in
    let g : k * fall ≤ count * fall = mul-le-mul_right fall at_most in
    omega (arith, some, f, g)

pub stays_above : (m s : ℤ) (p k count : ℕ) → s <ℤ pos 0 → s <ℤ m → 1 ≤ unsigned_abs (m -ℤ s) * p → count ≡ (unsigned_abs (m -ℤ s) * p - 1) / (2 * unsigned_abs s) → k ≤ count → IsAboveAfter m s k p
stays_above m s p k count falls begins some is at_most =
    above_after m s (unsigned_abs (m -ℤ s)) (unsigned_abs s) p k (size_above (m -ℤ s) (omega (arith, ints, begins))) (size_below s falls)
    (stands_below (unsigned_abs (m -ℤ s) * p) (2 * unsigned_abs s) count k some is at_most)

-- a height over more than no parts
pub height_some : (m s : ℤ) (p : ℕ) → s <ℤ m → 1 ≤ p → 1 ≤ unsigned_abs (m -ℤ s) * p
height_some m s p begins some =
    let a : 1 ≤ unsigned_abs (m -ℤ s) = size_some (m -ℤ s) (omega (arith, ints, begins)) in
    mul-le-mul a some
  where
    size_some : (z : ℤ) → pos 0 <ℤ z → 1 ≤ unsigned_abs z
    size_some (pos n) h = omega (arith, ints, h)
    size_some (negsuc n) h = omega (arith, ints, h)

-- ---- as rational numbers
at_least_1 : (c : ℤ) → pos 0 <ℤ c → NonNeg (of_int c -ℚ ratio (pos 1) 1)
at_least_1 c h = gap (rw (of_int_is (pos 1)) at (of_int_le {a = pos 1} {b = c} (omega (arith, ints, h))))

apart_by_1 : (c u : ℤ) → u <ℤ c → NonNeg (of_int c -ℚ of_int u -ℚ ratio (pos 1) 1)
apart_by_1 c u h =
    same_sign (ring (of_int c ∷ of_int u ∷ []) (search reads depth 90) tt)
    (gap (rw (of_int_add u (pos 1), of_int_is (pos 1)) at (of_int_le {a = u +ℤ pos 1} {b = c} (omega (arith, ints, h)))))

at_least_0 : (c : ℤ) → pos 0 ≤ℤ c → NonNeg (of_int c)
at_least_0 c h = same_sign (ring (of_int c ∷ []) (search reads depth 90) tt) (gap (rw (of_int_is (pos 0)) at (of_int_le {a = pos 0} {b = c} h)))

at_most_0 : (c : ℤ) → c ≤ℤ pos 0 → NonNeg (neg_ℚ (of_int c))
at_most_0 c h = same_sign (ring (of_int c ∷ []) (search reads depth 90) tt) (gap (rw (of_int_is (pos 0)) at (of_int_le {a = c} {b = pos 0} h)))

-- the height at the end of the parts, times these
end_height : (c s : ℤ) (k p : ℕ) → IsAboveAfter c s k p →
    NonNeg (of_int (pos p) *ℚ of_int c +ℚ (of_int (pos (2 * k)) -ℚ of_int (pos p)) *ℚ of_int s -ℚ ratio (pos 1) 1)
end_height c s k p above = rw (of_int_add, of_int_mul (pos p) c, of_int_mul (pos (2 * k) -ℤ pos p) s, of_int_add (pos (2 * k)) (neg_ℤ (pos p)), of_int_neg (pos p)) at (at_least_1 _ above)

-- ---- where a line between these is above 0
-- in the first half, where the middle is above 0, and the start
pub positive_before : (h : Place) (m w : ℚ) (c u : ℤ) → pos 0 <ℤ c → u <ℤ c → of_int c ≤ℚ m → w ≤ℚ of_int u → NonNeg (neg_ℚ h.at) → Positive (m +ℚ h.at *ℚ w)
positive_before h m w c u p q f g n =
    subst Positive (ring (h.at ∷ m ∷ w ∷ of_int c ∷ of_int u ∷ []) (search reads depth 90) tt)
    (positive_sum (positive_known 0 1) (gap h.low ⊗ at_least_1 c p ⊕ n ⊗ apart_by_1 c u q ⊕ gap f ⊕ n ⊗ gap g))

-- in the other half, on a line that does not fall
pub positive_rising : (h : Place) (m w : ℚ) (c s : ℤ) → pos 0 <ℤ c → pos 0 ≤ℤ s → of_int c ≤ℚ m → of_int s ≤ℚ w → NonNeg h.at → Positive (m +ℚ h.at *ℚ w)
positive_rising h m w c s p q f g n =
    subst Positive (ring (h.at ∷ m ∷ w ∷ of_int c ∷ of_int s ∷ []) (search reads depth 90) tt)
    (positive_sum (positive_known 0 1) (at_least_1 c p ⊕ gap f ⊕ n ⊗ gap g ⊕ n ⊗ at_least_0 s q))

-- in the first parts
by_parts : (p : ℕ) (x : ℚ) → Positive (of_int (pos p) *ℚ x) → Positive x
by_parts p x h =
    positive_by (λ n. not_both h (same_sign (ring (of_int (pos p) ∷ x ∷ []) (search reads depth 90) tt) (at_least_0 (pos p) (omega (arith, ints)) ⊗ n)))

pub positive_to_end : (h : Place) (p k : ℕ) (m w : ℚ) (c s : ℤ) → IsAboveAfter c s k p → s ≤ℤ pos 0 → IsAmongFirst h k p → of_int c ≤ℚ m → NonNeg (h.at *ℚ (w -ℚ of_int s)) → Positive (m +ℚ h.at *ℚ w)
positive_to_end h p k m w c s above falls among f g =
    by_parts p _
    (subst Positive (ring (h.at ∷ m ∷ w ∷ of_int c ∷ of_int s ∷ of_int (pos p) ∷ of_int (pos (2 * k)) ∷ []) (search reads depth 90) tt)
    (positive_sum (positive_known 0 1) (end_height c s k p above ⊕ gap among.within ⊗ at_most_0 s falls ⊕ parts ⊗ gap f ⊕ parts ⊗ g)))
  where
    parts : NonNeg (of_int (pos p))
    parts = at_least_0 (pos p) (omega (arith, ints))

-- a line whose middle is not above 0 is not above it in the second half
not_behind : (h : Place) (p k : ℕ) (c s : ℤ) → IsAboveAfter c s k p → s ≤ℤ pos 0 → c ≤ℤ pos 0 → IsAmongFirst h k p → NonNeg h.at → ⊥
not_behind h p k c s above falls low among n =
    not_both (positive_known 0 1)
    (same_sign (ring (h.at ∷ of_int c ∷ of_int s ∷ of_int (pos p) ∷ of_int (pos (2 * k)) ∷ []) (search reads depth 90) tt)
    (end_height c s k p above ⊕ parts ⊗ at_most_0 c low ⊕ gap among.within ⊗ at_most_0 s falls ⊕ parts ⊗ n ⊗ at_most_0 s falls))
  where
    parts : NonNeg (of_int (pos p))
    parts = at_least_0 (pos p) (omega (arith, ints))

-- ---- the three cases, in units
pub above_low : (h : Place) (p k : ℕ) (m w : ℚ) (c u : ℤ) → c ≤ℤ pos 0 → u <ℤ c → IsAboveAfter c u k p → IsAmongFirst h k p → of_int c ≤ℚ m → w ≤ℚ of_int u → Positive (m +ℚ h.at *ℚ w)
above_low h p k m w c u low begins above among f g =
    let falls : u ≤ℤ pos 0 = omega (arith, ints, low, begins) in
    by_sign h.at
    (λ n. absurd (not_behind h p k c u above falls low among n))
    (λ n. positive_to_end h p k m w c u above falls among f (same_sign (ring (h.at ∷ w ∷ of_int u ∷ []) (search reads depth 90) tt) (n ⊗ gap g)))

pub above_rising : (h : Place) (m w : ℚ) (c s u : ℤ) → pos 0 <ℤ c → u <ℤ c → pos 0 ≤ℤ s → of_int c ≤ℚ m → of_int s ≤ℚ w → w ≤ℚ of_int u → Positive (m +ℚ h.at *ℚ w)
above_rising h m w c s u high begins rises f g k = by_sign h.at (λ n. positive_rising h m w c s high rises f g n) (λ n. positive_before h m w c u high begins f k n)

pub above_falling : (h : Place) (p k : ℕ) (m w : ℚ) (c s u : ℤ) → pos 0 <ℤ c → u <ℤ c → s ≤ℤ pos 0 → IsAboveAfter c s k p → IsAmongFirst h k p → of_int c ≤ℚ m → of_int s ≤ℚ w → w ≤ℚ of_int u →
    Positive (m +ℚ h.at *ℚ w)
above_falling h p k m w c s u high begins falls above among f g t =
    by_sign h.at (λ n. positive_to_end h p k m w c s above falls among f (n ⊗ gap g)) (λ n. positive_before h m w c u high begins f t n)

-- ---- of a negative
pub below_by_negative : (x : ℚ) → zero_ℚ <ℚ neg_ℚ x → x <ℚ zero_ℚ
below_by_negative x h = lt_by (x ∷ []) (positive_gap h) (search reads depth 90) tt

-- ---- out of units
pub above_0 : (h : Place) (x m w : ℚ) → x ≡ on_slope h m w → Positive (in_units m +ℚ h.at *ℚ in_units w) → zero_ℚ <ℚ x
above_0 h x m w e p =
    subst (λ t. zero_ℚ <ℚ t) (sym e)
    (lt_by (h.at ∷ m ∷ w ∷ []) (positive_product (positive_known 0 281474976710656) p) (search reads depth 90) tt)

-- the other way round
pub reversed_on : (h g : Place) (x m w : ℚ) → g.at ≡ neg_ℚ h.at → x ≡ on_slope h m w → x ≡ on_slope g m (neg_ℚ w)
reversed_on h g x m w e is = is ∙ ring (h.at ∷ m ∷ w ∷ []) {y = m +ℚ neg_ℚ h.at *ℚ neg_ℚ w} (search reads depth 90) tt ∙ ap (λ t. m +ℚ t *ℚ neg_ℚ w) (sym e)

-- ---- fewer parts, and the larger of two counts
pub among_fewer : {h : Place} {k l p : ℕ} → k ≤ l → IsAmongFirst h k p → IsAmongFirst h l p
among_fewer {h} {k} {l} {p} more among = record {
  some = omega (arith, more, among.some);
  within = le_trans among.within (of_int_le {a = pos (2 * k)} {b = pos (2 * l)} (omega (arith, ints, more)));
}

pub among_either : {h : Place} {k a b p : ℕ} → k ≡ max a b → IsAmongFirst h k p → IsAmongFirst h a p ⊎ IsAmongFirst h b p
among_either {h} {k} {a} {b} {p} is among = ⊎_elim (λ e. inl (among_fewer e among)) (λ e. inr (among_fewer e among)) (one a b k is)
  where
    one : (a b k : ℕ) → k ≡ max a b → (k ≤ a) ⊎ (k ≤ b)
    one a b k is = grind (arith, is)

pub among_both : {h : Place} {k a b p : ℕ} → k ≡ min a b → IsAmongFirst h k p → IsAmongFirst h a p × IsAmongFirst h b p
among_both {h} {k} {a} {b} {p} is among = (among_fewer (left a b k is) among, among_fewer (right a b k is) among)
  where
    left : (a b k : ℕ) → k ≡ min a b → k ≤ a
    left a b k is = grind (arith, is)

    right : (a b k : ℕ) → k ≡ min a b → k ≤ b
    right a b k is = grind (arith, is)

-- ---- strict orders
pub not_below : (x : ℚ) → x <ℚ zero_ℚ → zero_ℚ ≤ℚ x → ⊥
not_below x h k = not_both (positive_gap h) (same_sign (ring (x ∷ []) (search reads depth 90) tt) (gap k))

pub lt_of_difference : (x y : ℚ) → zero_ℚ <ℚ y -ℚ x → x <ℚ y
lt_of_difference x y h = lt_by (x ∷ y ∷ []) (positive_gap h) (search reads depth 90) tt

pub gt_of_difference : (x y : ℚ) → y -ℚ x <ℚ zero_ℚ → y <ℚ x
gt_of_difference x y h = lt_by (x ∷ y ∷ []) (positive_gap h) (search reads depth 90) tt
