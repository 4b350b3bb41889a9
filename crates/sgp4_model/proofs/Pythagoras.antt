-- The squares of a sine and a cosine add up to 1, nearly; and both are at most 1, nearly.
use Rattle.std.proofs.Common.{◌≡◌, ◌^◌, ℕ, zero, suc, [], ◌∷◌, refl, pos, negsuc}
use Rattle.exact.specs.Rational.{ℚ, ◌+ℚ◌, ◌-ℚ◌, ◌*ℚ◌, ratio, one_ℚ, zero_ℚ, ◌≤ℚ◌}
use Rattle.exact.proofs.RationalRing.{ring, reads}
use Rattle.exact.proofs.Order.{◌⊕◌, ◌⊗◌, gap, le_by}
use Rattle.exact.proofs.Bounds.{square}
use Rattle.exact.specs.Interval.{between}
use Rattle.exact.proofs.Intervals.{le_on, inside}
use Rattle.sgp4_model.specs.AngleSums.{sine_sum, cosine_sum}
use Rattle.sgp4_model.specs.Angle.{IsNear, Pair, quadrant, turned, part}
use Rattle.sgp4_model.specs.PairLaws.{SquaresAddUpToOne, SinePairsAreBounded}
use Rattle.sgp4_model.proofs.Near.{near_trans, near_weaken}
use Rattle.sgp4_model.proofs.Rests.{IsAngle}
use Rattle.sgp4_model.proofs.PairLaws.{IsNearPair, pair_trans, no_pair, turned_near, turned_none}
use Rattle.sgp4_model.proofs.AngleSpan.{reduced_angle, sine_between, sums_small}
use Rattle.sgp4_model.proofs.Lipschitz.{pair_near_sums}

-- the two sums: all terms up to y^18 cancel
sums_pythagoras : {y : ℚ} → IsAngle y → IsNear (part 66) (sine_sum y *ℚ sine_sum y +ℚ cosine_sum y *ℚ cosine_sum y) one_ℚ
unfolding sine_sum cosine_sum
sums_pythagoras {y} h =
    record {
      above = le_on (10 ^ 60) (between (negsuc 3926) 5000 (pos 3927) 5000 ∷ []) (y ∷ []) (inside _ _ _ _ low h.high, tt) (search reads depth 200 fits 99999) tt;
      below = le_on (10 ^ 60) (between (negsuc 3926) 5000 (pos 3927) 5000 ∷ []) (y ∷ []) (inside _ _ _ _ low h.high, tt) (search reads depth 200 fits 99999) tt;
    }
  where
    low : ratio (negsuc 3926) 5000 ≤ℚ y
    low = le_by (y ∷ []) (gap h.low) (search reads depth 90) tt

-- squares of near numbers, the second of which is at most b
squares_near : {e b x y : ℚ} → IsNear e x y → IsNear b y zero_ℚ → IsNear (e *ℚ (ratio (pos 2) 1 *ℚ b +ℚ e)) (x *ℚ x) (y *ℚ y)
squares_near {e} {b} {x} {y} h k =
    record {
      above = le_by (e ∷ b ∷ x ∷ y ∷ []) (gap k.above ⊗ gap h.below ⊕ gap k.below ⊗ gap h.above ⊕ gap h.above ⊗ gap h.below) (search reads depth 90) tt;
      below = le_by (e ∷ b ∷ x ∷ y ∷ []) (gap k.above ⊗ gap h.above ⊕ gap k.below ⊗ gap h.below ⊕ square e ⊕ square (x -ℚ y)) (search reads depth 90) tt;
    }

-- quarter turns keep the sum of the squares
turned_squares : (n : ℕ) (p : Pair) →
    (turned n p).sine *ℚ (turned n p).sine +ℚ (turned n p).cosine *ℚ (turned n p).cosine ≡ p.sine *ℚ p.sine +ℚ p.cosine *ℚ p.cosine
unfolding turned
turned_squares zero p = refl
turned_squares (suc zero) p = ring (p.sine ∷ p.cosine ∷ []) (search reads depth 90) tt
turned_squares (suc (suc zero)) p = ring (p.sine ∷ p.cosine ∷ []) (search reads depth 90) tt
turned_squares (suc (suc (suc n))) p = ring (p.sine ∷ p.cosine ∷ []) (search reads depth 90) tt

-- the inner pair: two sizes of at most 3927/5000 and 1
inner_pythagoras : {y : ℚ} (p : Pair) → IsAngle y → IsNear (part 60) p.sine (sine_sum y) → IsNear (part 60) p.cosine (cosine_sum y) →
    IsNear (part 58) (p.sine *ℚ p.sine +ℚ p.cosine *ℚ p.cosine) one_ℚ
inner_pythagoras {y} p a h k =
    near_weaken (le_on (10 ^ 60) [] [] tt (search reads depth 90) tt)
    (near_trans (near_sum (squares_near h (sine_between a a.low a.high)) (squares_near k (sums_small a).cosine)) (sums_pythagoras a))
  where
    near_sum : {e f a b c d : ℚ} → IsNear e a b → IsNear f c d → IsNear (e +ℚ f) (a +ℚ c) (b +ℚ d)
    near_sum {e} {f} {a} {b} {c} {d} h k =
        record {
          above = le_by (e ∷ f ∷ a ∷ b ∷ c ∷ d ∷ []) (gap h.above ⊕ gap k.above) (search reads depth 90) tt;
          below = le_by (e ∷ f ∷ a ∷ b ∷ c ∷ d ∷ []) (gap h.below ⊕ gap k.below) (search reads depth 90) tt;
        }

-- a pair, through its inner pair
pub squares_add_up_to_one : SquaresAddUpToOne
squares_add_up_to_one pi x s c g h =
    rw (h.sine_is, h.cosine_is, turned_squares (quadrant h.quarters) h.inner)
    (inner_pythagoras h.inner (reduced_angle g h.in_range) h.sine_near h.cosine_near)

-- a pair, through its sums
pub sine_pairs_are_bounded : SinePairsAreBounded
sine_pairs_are_bounded pi x s c g h = (small.sine, small.cosine)
  where
    small : IsNearPair (part 60 +ℚ one_ℚ) (record { sine = s; cosine = c }) no_pair
    small = pair_trans (pair_near_sums h) (rw (turned_none (quadrant h.quarters)) at (turned_near (quadrant h.quarters) (sums_small (reduced_angle g h.in_range))))
