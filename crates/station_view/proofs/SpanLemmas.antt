-- No component of a vector along the local axes is longer than it is, but for the tolerance of sines; and its direction.
use Rattle.std.proofs.Common.{◌≡◌, [], ◌∷◌, refl, subst, ℕ, ◌+◌, ◌*◌, pos, neg_ℤ}
use Rattle.exact.specs.Rational.{ℚ, ◌+ℚ◌, ◌-ℚ◌, ◌*ℚ◌, ◌/ℚ◌, neg_ℚ, of_int, one_ℚ, ratio, ◌≤ℚ◌}
use Rattle.exact.proofs.RationalRing.{ring, reads}
use Rattle.exact.proofs.Order.{NonNeg, gap, known, le_by, le_trans, same_sign, ◌⊕◌, ◌⊗◌}
use Rattle.exact.proofs.Bounds.{square}
use Rattle.exact.proofs.Integers.{of_int_add, of_int_is, of_int_mul, ratio_is_product, ratio_neg}
use Rattle.exact.specs.Interval.{Inside}
use Rattle.exact.proofs.Intervals.{inside}
use Rattle.exact.proofs.Strict.{Positive, not_both, not_zero, positive_by, positive_known}
use Rattle.fixed_iv.specs.Place.{Place}
use Rattle.fixed_iv.specs.declared.enc.Enc.{Ghosts}
use Rattle.fixed_iv.proofs.Held.{claim_held}
use Rattle.sgp4_model.specs.Angle.{IsNear, Pair, part}
use Rattle.sgp4_model.specs.DaySolution.{local_up}
use Rattle.sgp4_model.specs.LocalAxes.{local_east, local_north}
use Rattle.sgp4_model.specs.Root.{IsSqrt}
use Rattle.sgp4_model.specs.Sight.{IsDirection, SightRecord}
use Rattle.sgp4_model.specs.Vector.{Vector, inner_product}
use Rattle.sgp4_model.proofs.Powers.{le_of_squares}
use Rattle.sgp4_model.proofs.RootLipschitz.{root_above}
use Rattle.station_view.specs.Lengths.{IsHeldLengths, lengths_of}
use Rattle.station_view.specs.declared.vector.Lengths.{Lengths}
use Rattle.station_view.proofs.AlongLemmas.{east_is, north_is, up_is}
use Rattle.station_view.proofs.ClassReach.{claimed_lengths, class_lengths, square_range, wide}

-- ---- turns
turned_square : (s c x y : ℚ) → (c *ℚ x +ℚ s *ℚ y) *ℚ (c *ℚ x +ℚ s *ℚ y) +ℚ (c *ℚ y -ℚ s *ℚ x) *ℚ (c *ℚ y -ℚ s *ℚ x) ≡ (x *ℚ x +ℚ y *ℚ y) *ℚ (s *ℚ s +ℚ c *ℚ c)
turned_square s c x y = ring (s ∷ c ∷ x ∷ y ∷ []) (search reads depth 90) tt

after_turn : (s c x y : ℚ) → IsNear (part 58) (s *ℚ s +ℚ c *ℚ c) one_ℚ →
    (c *ℚ x +ℚ s *ℚ y) *ℚ (c *ℚ x +ℚ s *ℚ y) +ℚ (c *ℚ y -ℚ s *ℚ x) *ℚ (c *ℚ y -ℚ s *ℚ x) ≤ℚ (x *ℚ x +ℚ y *ℚ y) *ℚ (one_ℚ +ℚ part 58)
after_turn s c x y near = rw turned_square (by (s *ℚ s +ℚ c *ℚ c) near)
  where
    by : (u : ℚ) → IsNear (part 58) u one_ℚ → (x *ℚ x +ℚ y *ℚ y) *ℚ u ≤ℚ (x *ℚ x +ℚ y *ℚ y) *ℚ (one_ℚ +ℚ part 58)
    by u k = le_by (x ∷ y ∷ u ∷ []) ((square x ⊕ square y) ⊗ gap k.above) (search reads depth 90) tt

-- of the first turn: o out of the axis, and e to the east
first_short : (x y z o e : ℚ) → o *ℚ o +ℚ e *ℚ e ≤ℚ (x *ℚ x +ℚ y *ℚ y) *ℚ (one_ℚ +ℚ part 58) → x *ℚ x +ℚ y *ℚ y +ℚ z *ℚ z ≤ℚ ratio (pos 100) 1 →
    e *ℚ e ≤ℚ x *ℚ x +ℚ y *ℚ y +ℚ z *ℚ z +ℚ ratio (pos 1) 10000000000
first_short x y z o e h q =
    le_by (x ∷ y ∷ z ∷ o ∷ e ∷ []) (gap h ⊕ square o ⊕ known 288230376151711745 288230376151711744 ⊗ square z ⊕ known 1 288230376151711744 ⊗ gap q ⊕ known 70368500037039 703687441776640000000000) (search reads depth 90) tt

-- and of the second: u up, n to the north
second_short : (x y z o e u n : ℚ) → o *ℚ o +ℚ e *ℚ e ≤ℚ (x *ℚ x +ℚ y *ℚ y) *ℚ (one_ℚ +ℚ part 58) → u *ℚ u +ℚ n *ℚ n ≤ℚ (o *ℚ o +ℚ z *ℚ z) *ℚ (one_ℚ +ℚ part 58) →
    x *ℚ x +ℚ y *ℚ y +ℚ z *ℚ z ≤ℚ ratio (pos 100) 1 →
    u *ℚ u +ℚ n *ℚ n ≤ℚ x *ℚ x +ℚ y *ℚ y +ℚ z *ℚ z +ℚ ratio (pos 1) 10000000000
second_short x y z o e u n h k q =
    le_by (x ∷ y ∷ z ∷ o ∷ e ∷ u ∷ n ∷ [])
    (gap k ⊕ known 288230376151711745 288230376151711744 ⊗ (gap h ⊕ square e) ⊕ known 576460752303423489 83076749736557242056487941267521536 ⊗ gap q ⊕ known 288230376151711745 83076749736557242056487941267521536 ⊗ square z ⊕ known 20282268866163315095947007145391 202824096036516704239472512860160000000000)
    (search reads depth 90) tt

either : (u n m : ℚ) → u *ℚ u +ℚ n *ℚ n ≤ℚ m → (u *ℚ u ≤ℚ m) × (n *ℚ n ≤ℚ m)
either u n m h = (le_by (u ∷ n ∷ m ∷ []) (gap h ⊕ square n) (search reads depth 90) tt, le_by (u ∷ n ∷ m ∷ []) (gap h ⊕ square u) (search reads depth 90) tt)

-- ---- ends
ten_times : (n : ℕ) → of_int (pos (10 * n + 1)) ≡ ratio (pos 10) 1 *ℚ of_int (pos n) +ℚ ratio (pos 1) 1
ten_times n = rw (← of_int_is (pos 10), ← of_int_is (pos 1), ← of_int_mul, ← of_int_add) refl

natural : (n : ℕ) → NonNeg (of_int (pos n))
natural n = rw (of_int_is (pos n)) (known n 1)

in_wide : (n : ℕ) (l q : ℚ) → q ≤ℚ ratio (pos (n * n)) 100000000 → l *ℚ l ≤ℚ q +ℚ ratio (pos 1) 10000000000 → Inside (wide n) l
in_wide n l q high less =
    let h = le_trans less (by (rw (ratio_is_product, square_of n) at high)) in
    inside (neg_ℤ (pos (10 * n + 1))) 100000 (pos (10 * n + 1)) 100000
    (rw (ratio_neg (pos (10 * n + 1)) 100000) (opposite l (ratio (pos (10 * n + 1)) 100000) (le_of_squares (known (10 * n + 1) 100000) (mirrored l h))))
    (le_of_squares (known (10 * n + 1) 100000) h)
  where
    square_of : (n : ℕ) → of_int (pos (n * n)) ≡ of_int (pos n) *ℚ of_int (pos n)
    square_of n = rw (← of_int_mul) refl

    end_is : ratio (pos (10 * n + 1)) 100000 ≡ (ratio (pos 10) 1 *ℚ of_int (pos n) +ℚ ratio (pos 1) 1) *ℚ ratio (pos 1) 100000
    end_is = rw (ratio_is_product (pos (10 * n + 1)) 100000, ten_times n) refl

    by : q ≤ℚ of_int (pos n) *ℚ of_int (pos n) *ℚ ratio (pos 1) 100000000 → q +ℚ ratio (pos 1) 10000000000 ≤ℚ ratio (pos (10 * n + 1)) 100000 *ℚ ratio (pos (10 * n + 1)) 100000
    by h =
        rw end_is (le_by (of_int (pos n) ∷ q ∷ []) (gap h ⊕ known 20 10000000000 ⊗ natural n) (search reads depth 90) tt)

    mirrored : {m : ℚ} (x : ℚ) → x *ℚ x ≤ℚ m → neg_ℚ x *ℚ neg_ℚ x ≤ℚ m
    mirrored {m} x h = le_by (x ∷ m ∷ []) (gap h) (search reads depth 90) tt

    opposite : (x c : ℚ) → neg_ℚ x ≤ℚ c → neg_ℚ c ≤ℚ x
    opposite x c h = le_by (x ∷ c ∷ []) (gap h) (search reads depth 90) tt

-- lengths of a class are no longer than its ranges, and a little
pub claimed_held : (m n : ℕ) {A : Type 0} {E : Ghosts A} {lengths : Lengths A} {h : Place} (lat lon : Pair) (d : Vector) (x : ℚ) →
    IsNear (part 58) (lat.sine *ℚ lat.sine +ℚ lat.cosine *ℚ lat.cosine) one_ℚ → IsNear (part 58) (lon.sine *ℚ lon.sine +ℚ lon.cosine *ℚ lon.cosine) one_ℚ →
    Inside (square_range m n) (inner_product d d) → inner_product d d ≤ℚ ratio (pos 100) 1 →
    IsHeldLengths E lengths h (lengths_of lat lon d x) (class_lengths m n) → IsHeldLengths E lengths h (lengths_of lat lon d x) (claimed_lengths m n)
unfolding ratio
claimed_held m n lat lon d x of_lat of_lon is most held =
    let q = inner_product d d in
    let a = after_turn lon.sine lon.cosine d.x d.y of_lon in
    let b = after_turn lat.sine lat.cosine (lon.cosine *ℚ d.x +ℚ lon.sine *ℚ d.y) d.z of_lat in
    let east = first_short d.x d.y d.z _ _ a most in
    let both = either _ _ _ (second_short d.x d.y d.z _ _ _ _ a b most) in
    record {
      east = claim_held (wide n) held.east (subst (Inside (wide n)) (east_is lon d) (in_wide n _ q is.high east));
      north = claim_held (wide n) held.north (subst (Inside (wide n)) (north_is lat lon d) (in_wide n _ q is.high both.1));
      up = claim_held (wide n) held.up (subst (Inside (wide n)) (up_is lat lon d) (in_wide n _ q is.high both.0));
      range = held.range;
    }

-- ---- a direction
pub record SomeDirection (lat lon : Pair) (d : Vector) (range : ℚ) : Type 0 where
  pub direction : SightRecord
  pub is : IsDirection lat lon d range direction

pub some_direction : (lat lon : Pair) (d : Vector) (range : ℚ) → ratio (pos 33489) 100000000 ≤ℚ inner_product d d → IsSqrt (inner_product d d) range → SomeDirection lat lon d range
some_direction lat lon d range least root = record {
  direction = record { east = inner_product d (local_east lon) /ℚ range; north = inner_product d (local_north lat lon) /ℚ range; up = inner_product d (local_up lat lon) /ℚ range };
  is = record { range_is = root; range_divides = not_zero (above (root_above far root)); east = refl; north = refl; up = refl };
}
  where
    far : ratio (pos 1) 100 *ℚ ratio (pos 1) 100 +ℚ part 60 ≤ℚ inner_product d d
    far = le_trans (le_by [] (known 105785051647305189919 450359962737049600000000) (search reads depth 90) tt) least

    above : {r : ℚ} → ratio (pos 1) 100 ≤ℚ r → Positive r
    above {r} h = positive_by (λ p. not_both (positive_known 0 1) (same_sign (ring (r ∷ []) (search reads depth 90) tt) (known 100 1 ⊗ (p ⊕ gap h))))
