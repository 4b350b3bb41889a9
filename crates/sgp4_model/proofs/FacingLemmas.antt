-- The sides on which a direction lies of a border that it does not face: borders within some degrees of a quarter turn.
use Rattle.std.proofs.Common.{◌≡◌, refl, subst, [], ◌∷◌, ◌*◌, ◌^◌, pos, negsuc}
use Rattle.exact.specs.Rational.{ℚ, ◌+ℚ◌, ◌-ℚ◌, ◌*ℚ◌, neg_ℚ, one_ℚ, ratio, zero_ℚ, ◌≤ℚ◌}
use Rattle.exact.proofs.RationalRing.{ring, reads}
use Rattle.exact.proofs.Order.{gap, known, le_by, ◌⊕◌, ◌⊗◌}
use Rattle.exact.proofs.Integers.{of_int_is}
use Rattle.sgp4_model.specs.Angle.{IsNear, IsPi, IsReduced, IsSinCos, Pair, part, quadrant, reduced, turned}
use Rattle.sgp4_model.specs.AngleSums.{cosine_sum, sine_sum}
use Rattle.sgp4_model.specs.Degrees.{radians}
use Rattle.sgp4_model.specs.Numerals.{whole}
use Rattle.sgp4_model.proofs.PairSlopes.{sine_pairs_follow_their_slope}

-- ---- the sums at 0
sine_of_0 : sine_sum zero_ℚ ≡ zero_ℚ
unfolding sine_sum
sine_of_0 = ring [] (search reads depth 90) tt

cosine_of_0 : cosine_sum zero_ℚ ≡ one_ℚ
unfolding cosine_sum
cosine_of_0 = ring [] (search reads depth 90) tt

near_0 : {y : ℚ} → y ≡ zero_ℚ → IsNear (part 60) zero_ℚ (sine_sum y)
near_0 e = rw (e, sine_of_0) (record { above = le_by [] (known 1 (2 ^ 60)) (search reads depth 90) tt; below = le_by [] (known 1 (2 ^ 60)) (search reads depth 90) tt })

near_1 : {y : ℚ} → y ≡ zero_ℚ → IsNear (part 60) one_ℚ (cosine_sum y)
near_1 e = rw (e, cosine_of_0) (record { above = le_by [] (known 1 (2 ^ 60)) (search reads depth 90) tt; below = le_by [] (known 1 (2 ^ 60)) (search reads depth 90) tt })

at_0 : {pi y : ℚ} → IsPi pi → y ≡ zero_ℚ → IsReduced pi y
at_0 {pi} h e = rw e (record {
  low = le_by (pi ∷ []) (known 1 4 ⊗ gap h.low ⊕ known 3141592653589793238462643383279502884 (4 * 10 ^ 36)) (search reads depth 90) tt;
  high = le_by (pi ∷ []) (known 1 4 ⊗ gap h.low ⊕ known 3141592653589793238462643383279502884 (4 * 10 ^ 36)) (search reads depth 90) tt;
})

-- ---- the pairs of whole quarter turns
abbrev unit : Pair
unit = record { sine = zero_ℚ; cosine = one_ℚ }

whole_0 : (pi : ℚ) → reduced pi (radians pi (whole 0)) (pos 0) ≡ zero_ℚ
whole_0 pi = rw (of_int_is (pos 0)) (ring (pi ∷ []) (search reads depth 90) tt)

quarter_0 : {pi : ℚ} → IsPi pi → IsSinCos pi (radians pi (whole 0)) (turned 0 unit).sine (turned 0 unit).cosine
unfolding quadrant turned
quarter_0 {pi} h = record {
  quarters = pos 0;
  inner = unit;
  in_range = at_0 h (whole_0 pi);
  sine_near = near_0 (whole_0 pi);
  cosine_near = near_1 (whole_0 pi);
  sine_is = refl;
  cosine_is = refl;
}

whole_1 : (pi : ℚ) → reduced pi (radians pi (whole 90)) (pos 1) ≡ zero_ℚ
whole_1 pi = rw (of_int_is (pos 1)) (ring (pi ∷ []) (search reads depth 90) tt)

quarter_1 : {pi : ℚ} → IsPi pi → IsSinCos pi (radians pi (whole 90)) (turned 1 unit).sine (turned 1 unit).cosine
unfolding quadrant turned
quarter_1 {pi} h = record {
  quarters = pos 1;
  inner = unit;
  in_range = at_0 h (whole_1 pi);
  sine_near = near_0 (whole_1 pi);
  cosine_near = near_1 (whole_1 pi);
  sine_is = refl;
  cosine_is = refl;
}

whole_2 : (pi : ℚ) → reduced pi (radians pi (whole 180)) (pos 2) ≡ zero_ℚ
whole_2 pi = rw (of_int_is (pos 2)) (ring (pi ∷ []) (search reads depth 90) tt)

quarter_2 : {pi : ℚ} → IsPi pi → IsSinCos pi (radians pi (whole 180)) (turned 2 unit).sine (turned 2 unit).cosine
unfolding quadrant turned
quarter_2 {pi} h = record {
  quarters = pos 2;
  inner = unit;
  in_range = at_0 h (whole_2 pi);
  sine_near = near_0 (whole_2 pi);
  cosine_near = near_1 (whole_2 pi);
  sine_is = refl;
  cosine_is = refl;
}

whole_3 : (pi : ℚ) → reduced pi (radians pi (whole 270)) (pos 3) ≡ zero_ℚ
whole_3 pi = rw (of_int_is (pos 3)) (ring (pi ∷ []) (search reads depth 90) tt)

quarter_3 : {pi : ℚ} → IsPi pi → IsSinCos pi (radians pi (whole 270)) (turned 3 unit).sine (turned 3 unit).cosine
unfolding quadrant turned
quarter_3 {pi} h = record {
  quarters = pos 3;
  inner = unit;
  in_range = at_0 h (whole_3 pi);
  sine_near = near_0 (whole_3 pi);
  cosine_near = near_1 (whole_3 pi);
  sine_is = refl;
  cosine_is = refl;
}

whole_4 : (pi : ℚ) → reduced pi (radians pi (whole 360)) (pos 4) ≡ zero_ℚ
whole_4 pi = rw (of_int_is (pos 4)) (ring (pi ∷ []) (search reads depth 90) tt)

quarter_4 : {pi : ℚ} → IsPi pi → IsSinCos pi (radians pi (whole 360)) (turned 0 unit).sine (turned 0 unit).cosine
unfolding quadrant turned
quarter_4 {pi} h = record {
  quarters = pos 4;
  inner = unit;
  in_range = at_0 h (whole_4 pi);
  sine_near = near_0 (whole_4 pi);
  cosine_near = near_1 (whole_4 pi);
  sine_is = refl;
  cosine_is = refl;
}

-- ---- how far a step of so many degrees goes
abbrev step : ℚ → ℚ → ℚ
step pi degrees = degrees *ℚ pi *ℚ ratio (pos 1) 180

-- the tolerance of a step
abbrev slack : ℚ → ℚ
slack d = ratio (pos 1) 2 *ℚ (d *ℚ d) +ℚ part 54

-- a number of degrees between two
pub record IsBetween (low high : ℚ) (x : ℚ) : Type 0 where
  pub least : low ≤ℚ x
  pub most : x ≤ℚ high

pi_below : {pi : ℚ} → IsPi pi → pi ≤ℚ ratio (pos 31416) 10000
pi_below {pi} h = le_by (pi ∷ []) (gap h.high ⊕ known 1469282041352307471323344099423 200000000000000000000000000000000000) (search reads depth 90) tt

pi_above : {pi : ℚ} → IsPi pi → zero_ℚ ≤ℚ pi
pi_above {pi} h = le_by (pi ∷ []) (gap h.low ⊕ known 3141592653589793238462643383279502884 (10 ^ 36)) (search reads depth 90) tt

-- to the one side
low_33 : {pi x : ℚ} → IsPi pi → neg_ℚ (whole 33) ≤ℚ x → ratio (negsuc 575) 1000 ≤ℚ step pi x
low_33 {pi} {x} h k = le_by (pi ∷ x ∷ []) (known 1 180 ⊗ gap k ⊗ gap (pi_above h) ⊕ known 33 180 ⊗ gap (pi_below h) ⊕ known 1 25000) (search reads depth 90) tt

high_57 : {pi x : ℚ} → IsPi pi → x ≤ℚ whole 57 → step pi x ≤ℚ ratio (pos 995) 1000
high_57 {pi} {x} h k = le_by (pi ∷ x ∷ []) (known 1 180 ⊗ gap k ⊗ gap (pi_above h) ⊕ known 57 180 ⊗ gap (pi_below h) ⊕ known 1 6250) (search reads depth 90) tt

low_57 : {pi x : ℚ} → IsPi pi → neg_ℚ (whole 57) ≤ℚ x → ratio (negsuc 994) 1000 ≤ℚ step pi x
low_57 {pi} {x} h k = le_by (pi ∷ x ∷ []) (known 1 180 ⊗ gap k ⊗ gap (pi_above h) ⊕ known 57 180 ⊗ gap (pi_below h) ⊕ known 1 6250) (search reads depth 90) tt

high_33 : {pi x : ℚ} → IsPi pi → x ≤ℚ whole 33 → step pi x ≤ℚ ratio (pos 576) 1000
high_33 {pi} {x} h k = le_by (pi ∷ x ∷ []) (known 1 180 ⊗ gap k ⊗ gap (pi_above h) ⊕ known 33 180 ⊗ gap (pi_below h) ⊕ known 1 25000) (search reads depth 90) tt

-- ---- u is near 1 and w is near -d, both up to the tolerance
module _ (d u w : ℚ) where
  main : ratio (negsuc 994) 1000 ≤ℚ d → d ≤ℚ ratio (pos 995) 1000 → one_ℚ ≤ℚ u +ℚ slack d → zero_ℚ ≤ℚ u
  main l h k = le_by (d ∷ u ∷ []) (gap k ⊕ known 1 2 ⊗ (gap l ⊗ gap h) ⊕ known 5685653792066895247 11258999068426240000) (search reads depth 90) tt

  plus_side : ratio (negsuc 575) 1000 ≤ℚ d → d ≤ℚ ratio (pos 995) 1000 → one_ℚ ≤ℚ u +ℚ slack d → w ≤ℚ neg_ℚ d +ℚ slack d → w ≤ℚ u
  plus_side l h k m = le_by (d ∷ u ∷ w ∷ []) (gap k ⊕ gap m ⊕ gap l ⊗ gap h ⊕ known 581 1000 ⊗ gap l ⊕ known 12979374126081753847 140737488355328000000) (search reads depth 90) tt

  minus_side : ratio (negsuc 994) 1000 ≤ℚ d → d ≤ℚ ratio (pos 576) 1000 → one_ℚ ≤ℚ u +ℚ slack d → neg_ℚ d ≤ℚ w +ℚ slack d → neg_ℚ w ≤ℚ u
  minus_side l h k m = le_by (d ∷ u ∷ w ∷ []) (gap k ⊕ gap m ⊕ gap l ⊗ gap h ⊕ known 581 1000 ⊗ gap h ⊕ known 12979374126081753847 140737488355328000000) (search reads depth 90) tt

-- what a border within some degrees of a quarter turn says: of u and w
pub record Leans (u w : ℚ) : Type 0 where
  pub main : zero_ℚ ≤ℚ u
  pub side : w ≤ℚ u

module _ {pi t a : ℚ} (x : ℚ) (h : IsPi pi) (is : IsSinCos pi (radians pi (whole 0 +ℚ x)) t a) where
  slope_0 : IsNear one_ℚ (step pi x) zero_ℚ → IsNear (slack (step pi x)) t ((turned 0 unit).sine +ℚ step pi x *ℚ (turned 0 unit).cosine) × IsNear (slack (step pi x)) a ((turned 0 unit).cosine -ℚ step pi x *ℚ (turned 0 unit).sine)
  slope_0 small = sine_pairs_follow_their_slope pi (radians pi (whole 0)) (step pi x) _ _ t a h small (quarter_0 h) (subst (λ y. IsSinCos pi y t a) (ring (pi ∷ x ∷ []) (search reads depth 90) tt) is)

  pub plus_0 : neg_ℚ (whole 33) ≤ℚ x → x ≤ℚ whole 57 → Leans (a) (neg_ℚ t)
  unfolding turned
  plus_0 l m = by (step pi x) (low_33 h l) (high_57 h m) slope_0
    where
      by : (d : ℚ) → ratio (negsuc 575) 1000 ≤ℚ d → d ≤ℚ ratio (pos 995) 1000 → (IsNear one_ℚ d zero_ℚ → IsNear (slack d) t ((turned 0 unit).sine +ℚ d *ℚ (turned 0 unit).cosine) × IsNear (slack d) a ((turned 0 unit).cosine -ℚ d *ℚ (turned 0 unit).sine)) → Leans (a) (neg_ℚ t)
      by d l m f =
          let n = f (record { above = le_by (d ∷ []) (gap m ⊕ known 5 1000) (search reads depth 90) tt; below = le_by (d ∷ []) (gap l ⊕ known 424 1000) (search reads depth 90) tt }) in
          let one : one_ℚ ≤ℚ a +ℚ slack d = le_by (t ∷ a ∷ d ∷ []) (gap n.1.below) (search reads depth 90) tt in
          let side : neg_ℚ t ≤ℚ neg_ℚ d +ℚ slack d = le_by (t ∷ a ∷ d ∷ []) (gap n.0.below) (search reads depth 90) tt in
          record { main = main d (a) (neg_ℚ t) (le_by (d ∷ []) (gap l ⊕ known 419 1000) (search reads depth 90) tt) m one; side = plus_side d (a) (neg_ℚ t) l m one side }

  pub minus_0 : neg_ℚ (whole 57) ≤ℚ x → x ≤ℚ whole 33 → Leans (a) (neg_ℚ (neg_ℚ t))
  unfolding turned
  minus_0 l m = by (step pi x) (low_57 h l) (high_33 h m) slope_0
    where
      by : (d : ℚ) → ratio (negsuc 994) 1000 ≤ℚ d → d ≤ℚ ratio (pos 576) 1000 → (IsNear one_ℚ d zero_ℚ → IsNear (slack d) t ((turned 0 unit).sine +ℚ d *ℚ (turned 0 unit).cosine) × IsNear (slack d) a ((turned 0 unit).cosine -ℚ d *ℚ (turned 0 unit).sine)) → Leans (a) (neg_ℚ (neg_ℚ t))
      by d l m f =
          let n = f (record { above = le_by (d ∷ []) (gap m ⊕ known 424 1000) (search reads depth 90) tt; below = le_by (d ∷ []) (gap l ⊕ known 5 1000) (search reads depth 90) tt }) in
          let one : one_ℚ ≤ℚ a +ℚ slack d = le_by (t ∷ a ∷ d ∷ []) (gap n.1.below) (search reads depth 90) tt in
          let side : neg_ℚ d ≤ℚ neg_ℚ t +ℚ slack d = le_by (t ∷ a ∷ d ∷ []) (gap n.0.above) (search reads depth 90) tt in
          record { main = main d (a) (neg_ℚ t) l (le_by (d ∷ []) (gap m ⊕ known 419 1000) (search reads depth 90) tt) one; side = minus_side d (a) (neg_ℚ t) l m one side }

module _ {pi t a : ℚ} (x : ℚ) (h : IsPi pi) (is : IsSinCos pi (radians pi (whole 90 +ℚ x)) t a) where
  slope_1 : IsNear one_ℚ (step pi x) zero_ℚ → IsNear (slack (step pi x)) t ((turned 1 unit).sine +ℚ step pi x *ℚ (turned 1 unit).cosine) × IsNear (slack (step pi x)) a ((turned 1 unit).cosine -ℚ step pi x *ℚ (turned 1 unit).sine)
  slope_1 small = sine_pairs_follow_their_slope pi (radians pi (whole 90)) (step pi x) _ _ t a h small (quarter_1 h) (subst (λ y. IsSinCos pi y t a) (ring (pi ∷ x ∷ []) (search reads depth 90) tt) is)

  pub plus_1 : neg_ℚ (whole 33) ≤ℚ x → x ≤ℚ whole 57 → Leans (t) (a)
  unfolding turned
  plus_1 l m = by (step pi x) (low_33 h l) (high_57 h m) slope_1
    where
      by : (d : ℚ) → ratio (negsuc 575) 1000 ≤ℚ d → d ≤ℚ ratio (pos 995) 1000 → (IsNear one_ℚ d zero_ℚ → IsNear (slack d) t ((turned 1 unit).sine +ℚ d *ℚ (turned 1 unit).cosine) × IsNear (slack d) a ((turned 1 unit).cosine -ℚ d *ℚ (turned 1 unit).sine)) → Leans (t) (a)
      by d l m f =
          let n = f (record { above = le_by (d ∷ []) (gap m ⊕ known 5 1000) (search reads depth 90) tt; below = le_by (d ∷ []) (gap l ⊕ known 424 1000) (search reads depth 90) tt }) in
          let one : one_ℚ ≤ℚ t +ℚ slack d = le_by (t ∷ a ∷ d ∷ []) (gap n.0.below) (search reads depth 90) tt in
          let side : a ≤ℚ neg_ℚ d +ℚ slack d = le_by (t ∷ a ∷ d ∷ []) (gap n.1.above) (search reads depth 90) tt in
          record { main = main d (t) (a) (le_by (d ∷ []) (gap l ⊕ known 419 1000) (search reads depth 90) tt) m one; side = plus_side d (t) (a) l m one side }

  pub minus_1 : neg_ℚ (whole 57) ≤ℚ x → x ≤ℚ whole 33 → Leans (t) (neg_ℚ (a))
  unfolding turned
  minus_1 l m = by (step pi x) (low_57 h l) (high_33 h m) slope_1
    where
      by : (d : ℚ) → ratio (negsuc 994) 1000 ≤ℚ d → d ≤ℚ ratio (pos 576) 1000 → (IsNear one_ℚ d zero_ℚ → IsNear (slack d) t ((turned 1 unit).sine +ℚ d *ℚ (turned 1 unit).cosine) × IsNear (slack d) a ((turned 1 unit).cosine -ℚ d *ℚ (turned 1 unit).sine)) → Leans (t) (neg_ℚ (a))
      by d l m f =
          let n = f (record { above = le_by (d ∷ []) (gap m ⊕ known 424 1000) (search reads depth 90) tt; below = le_by (d ∷ []) (gap l ⊕ known 5 1000) (search reads depth 90) tt }) in
          let one : one_ℚ ≤ℚ t +ℚ slack d = le_by (t ∷ a ∷ d ∷ []) (gap n.0.below) (search reads depth 90) tt in
          let side : neg_ℚ d ≤ℚ a +ℚ slack d = le_by (t ∷ a ∷ d ∷ []) (gap n.1.below) (search reads depth 90) tt in
          record { main = main d (t) (a) l (le_by (d ∷ []) (gap m ⊕ known 419 1000) (search reads depth 90) tt) one; side = minus_side d (t) (a) l m one side }

module _ {pi t a : ℚ} (x : ℚ) (h : IsPi pi) (is : IsSinCos pi (radians pi (whole 180 +ℚ x)) t a) where
  slope_2 : IsNear one_ℚ (step pi x) zero_ℚ → IsNear (slack (step pi x)) t ((turned 2 unit).sine +ℚ step pi x *ℚ (turned 2 unit).cosine) × IsNear (slack (step pi x)) a ((turned 2 unit).cosine -ℚ step pi x *ℚ (turned 2 unit).sine)
  slope_2 small = sine_pairs_follow_their_slope pi (radians pi (whole 180)) (step pi x) _ _ t a h small (quarter_2 h) (subst (λ y. IsSinCos pi y t a) (ring (pi ∷ x ∷ []) (search reads depth 90) tt) is)

  pub plus_2 : neg_ℚ (whole 33) ≤ℚ x → x ≤ℚ whole 57 → Leans (neg_ℚ a) (t)
  unfolding turned
  plus_2 l m = by (step pi x) (low_33 h l) (high_57 h m) slope_2
    where
      by : (d : ℚ) → ratio (negsuc 575) 1000 ≤ℚ d → d ≤ℚ ratio (pos 995) 1000 → (IsNear one_ℚ d zero_ℚ → IsNear (slack d) t ((turned 2 unit).sine +ℚ d *ℚ (turned 2 unit).cosine) × IsNear (slack d) a ((turned 2 unit).cosine -ℚ d *ℚ (turned 2 unit).sine)) → Leans (neg_ℚ a) (t)
      by d l m f =
          let n = f (record { above = le_by (d ∷ []) (gap m ⊕ known 5 1000) (search reads depth 90) tt; below = le_by (d ∷ []) (gap l ⊕ known 424 1000) (search reads depth 90) tt }) in
          let one : one_ℚ ≤ℚ neg_ℚ a +ℚ slack d = le_by (t ∷ a ∷ d ∷ []) (gap n.1.above) (search reads depth 90) tt in
          let side : t ≤ℚ neg_ℚ d +ℚ slack d = le_by (t ∷ a ∷ d ∷ []) (gap n.0.above) (search reads depth 90) tt in
          record { main = main d (neg_ℚ a) (t) (le_by (d ∷ []) (gap l ⊕ known 419 1000) (search reads depth 90) tt) m one; side = plus_side d (neg_ℚ a) (t) l m one side }

  pub minus_2 : neg_ℚ (whole 57) ≤ℚ x → x ≤ℚ whole 33 → Leans (neg_ℚ a) (neg_ℚ (t))
  unfolding turned
  minus_2 l m = by (step pi x) (low_57 h l) (high_33 h m) slope_2
    where
      by : (d : ℚ) → ratio (negsuc 994) 1000 ≤ℚ d → d ≤ℚ ratio (pos 576) 1000 → (IsNear one_ℚ d zero_ℚ → IsNear (slack d) t ((turned 2 unit).sine +ℚ d *ℚ (turned 2 unit).cosine) × IsNear (slack d) a ((turned 2 unit).cosine -ℚ d *ℚ (turned 2 unit).sine)) → Leans (neg_ℚ a) (neg_ℚ (t))
      by d l m f =
          let n = f (record { above = le_by (d ∷ []) (gap m ⊕ known 424 1000) (search reads depth 90) tt; below = le_by (d ∷ []) (gap l ⊕ known 5 1000) (search reads depth 90) tt }) in
          let one : one_ℚ ≤ℚ neg_ℚ a +ℚ slack d = le_by (t ∷ a ∷ d ∷ []) (gap n.1.above) (search reads depth 90) tt in
          let side : neg_ℚ d ≤ℚ t +ℚ slack d = le_by (t ∷ a ∷ d ∷ []) (gap n.0.below) (search reads depth 90) tt in
          record { main = main d (neg_ℚ a) (t) l (le_by (d ∷ []) (gap m ⊕ known 419 1000) (search reads depth 90) tt) one; side = minus_side d (neg_ℚ a) (t) l m one side }

module _ {pi t a : ℚ} (x : ℚ) (h : IsPi pi) (is : IsSinCos pi (radians pi (whole 270 +ℚ x)) t a) where
  slope_3 : IsNear one_ℚ (step pi x) zero_ℚ → IsNear (slack (step pi x)) t ((turned 3 unit).sine +ℚ step pi x *ℚ (turned 3 unit).cosine) × IsNear (slack (step pi x)) a ((turned 3 unit).cosine -ℚ step pi x *ℚ (turned 3 unit).sine)
  slope_3 small = sine_pairs_follow_their_slope pi (radians pi (whole 270)) (step pi x) _ _ t a h small (quarter_3 h) (subst (λ y. IsSinCos pi y t a) (ring (pi ∷ x ∷ []) (search reads depth 90) tt) is)

  pub plus_3 : neg_ℚ (whole 33) ≤ℚ x → x ≤ℚ whole 57 → Leans (neg_ℚ t) (neg_ℚ a)
  unfolding turned
  plus_3 l m = by (step pi x) (low_33 h l) (high_57 h m) slope_3
    where
      by : (d : ℚ) → ratio (negsuc 575) 1000 ≤ℚ d → d ≤ℚ ratio (pos 995) 1000 → (IsNear one_ℚ d zero_ℚ → IsNear (slack d) t ((turned 3 unit).sine +ℚ d *ℚ (turned 3 unit).cosine) × IsNear (slack d) a ((turned 3 unit).cosine -ℚ d *ℚ (turned 3 unit).sine)) → Leans (neg_ℚ t) (neg_ℚ a)
      by d l m f =
          let n = f (record { above = le_by (d ∷ []) (gap m ⊕ known 5 1000) (search reads depth 90) tt; below = le_by (d ∷ []) (gap l ⊕ known 424 1000) (search reads depth 90) tt }) in
          let one : one_ℚ ≤ℚ neg_ℚ t +ℚ slack d = le_by (t ∷ a ∷ d ∷ []) (gap n.0.above) (search reads depth 90) tt in
          let side : neg_ℚ a ≤ℚ neg_ℚ d +ℚ slack d = le_by (t ∷ a ∷ d ∷ []) (gap n.1.below) (search reads depth 90) tt in
          record { main = main d (neg_ℚ t) (neg_ℚ a) (le_by (d ∷ []) (gap l ⊕ known 419 1000) (search reads depth 90) tt) m one; side = plus_side d (neg_ℚ t) (neg_ℚ a) l m one side }

  pub minus_3 : neg_ℚ (whole 57) ≤ℚ x → x ≤ℚ whole 33 → Leans (neg_ℚ t) (neg_ℚ (neg_ℚ a))
  unfolding turned
  minus_3 l m = by (step pi x) (low_57 h l) (high_33 h m) slope_3
    where
      by : (d : ℚ) → ratio (negsuc 994) 1000 ≤ℚ d → d ≤ℚ ratio (pos 576) 1000 → (IsNear one_ℚ d zero_ℚ → IsNear (slack d) t ((turned 3 unit).sine +ℚ d *ℚ (turned 3 unit).cosine) × IsNear (slack d) a ((turned 3 unit).cosine -ℚ d *ℚ (turned 3 unit).sine)) → Leans (neg_ℚ t) (neg_ℚ (neg_ℚ a))
      by d l m f =
          let n = f (record { above = le_by (d ∷ []) (gap m ⊕ known 424 1000) (search reads depth 90) tt; below = le_by (d ∷ []) (gap l ⊕ known 5 1000) (search reads depth 90) tt }) in
          let one : one_ℚ ≤ℚ neg_ℚ t +ℚ slack d = le_by (t ∷ a ∷ d ∷ []) (gap n.0.above) (search reads depth 90) tt in
          let side : neg_ℚ d ≤ℚ neg_ℚ a +ℚ slack d = le_by (t ∷ a ∷ d ∷ []) (gap n.1.above) (search reads depth 90) tt in
          record { main = main d (neg_ℚ t) (neg_ℚ a) l (le_by (d ∷ []) (gap m ⊕ known 419 1000) (search reads depth 90) tt) one; side = minus_side d (neg_ℚ t) (neg_ℚ a) l m one side }

module _ {pi t a : ℚ} (x : ℚ) (h : IsPi pi) (is : IsSinCos pi (radians pi (whole 360 +ℚ x)) t a) where
  slope_4 : IsNear one_ℚ (step pi x) zero_ℚ → IsNear (slack (step pi x)) t ((turned 0 unit).sine +ℚ step pi x *ℚ (turned 0 unit).cosine) × IsNear (slack (step pi x)) a ((turned 0 unit).cosine -ℚ step pi x *ℚ (turned 0 unit).sine)
  slope_4 small = sine_pairs_follow_their_slope pi (radians pi (whole 360)) (step pi x) _ _ t a h small (quarter_4 h) (subst (λ y. IsSinCos pi y t a) (ring (pi ∷ x ∷ []) (search reads depth 90) tt) is)

  pub plus_4 : neg_ℚ (whole 33) ≤ℚ x → x ≤ℚ whole 57 → Leans (a) (neg_ℚ t)
  unfolding turned
  plus_4 l m = by (step pi x) (low_33 h l) (high_57 h m) slope_4
    where
      by : (d : ℚ) → ratio (negsuc 575) 1000 ≤ℚ d → d ≤ℚ ratio (pos 995) 1000 → (IsNear one_ℚ d zero_ℚ → IsNear (slack d) t ((turned 0 unit).sine +ℚ d *ℚ (turned 0 unit).cosine) × IsNear (slack d) a ((turned 0 unit).cosine -ℚ d *ℚ (turned 0 unit).sine)) → Leans (a) (neg_ℚ t)
      by d l m f =
          let n = f (record { above = le_by (d ∷ []) (gap m ⊕ known 5 1000) (search reads depth 90) tt; below = le_by (d ∷ []) (gap l ⊕ known 424 1000) (search reads depth 90) tt }) in
          let one : one_ℚ ≤ℚ a +ℚ slack d = le_by (t ∷ a ∷ d ∷ []) (gap n.1.below) (search reads depth 90) tt in
          let side : neg_ℚ t ≤ℚ neg_ℚ d +ℚ slack d = le_by (t ∷ a ∷ d ∷ []) (gap n.0.below) (search reads depth 90) tt in
          record { main = main d (a) (neg_ℚ t) (le_by (d ∷ []) (gap l ⊕ known 419 1000) (search reads depth 90) tt) m one; side = plus_side d (a) (neg_ℚ t) l m one side }

  pub minus_4 : neg_ℚ (whole 57) ≤ℚ x → x ≤ℚ whole 33 → Leans (a) (neg_ℚ (neg_ℚ t))
  unfolding turned
  minus_4 l m = by (step pi x) (low_57 h l) (high_33 h m) slope_4
    where
      by : (d : ℚ) → ratio (negsuc 994) 1000 ≤ℚ d → d ≤ℚ ratio (pos 576) 1000 → (IsNear one_ℚ d zero_ℚ → IsNear (slack d) t ((turned 0 unit).sine +ℚ d *ℚ (turned 0 unit).cosine) × IsNear (slack d) a ((turned 0 unit).cosine -ℚ d *ℚ (turned 0 unit).sine)) → Leans (a) (neg_ℚ (neg_ℚ t))
      by d l m f =
          let n = f (record { above = le_by (d ∷ []) (gap m ⊕ known 424 1000) (search reads depth 90) tt; below = le_by (d ∷ []) (gap l ⊕ known 5 1000) (search reads depth 90) tt }) in
          let one : one_ℚ ≤ℚ a +ℚ slack d = le_by (t ∷ a ∷ d ∷ []) (gap n.1.below) (search reads depth 90) tt in
          let side : neg_ℚ d ≤ℚ neg_ℚ t +ℚ slack d = le_by (t ∷ a ∷ d ∷ []) (gap n.0.above) (search reads depth 90) tt in
          record { main = main d (a) (neg_ℚ t) l (le_by (d ∷ []) (gap m ⊕ known 419 1000) (search reads depth 90) tt) one; side = minus_side d (a) (neg_ℚ t) l m one side }
