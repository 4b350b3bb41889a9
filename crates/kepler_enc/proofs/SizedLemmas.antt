-- Numbers whose sizes are small together, and the angles and steepnesses that they give.
use Rattle.std.proofs.Common.{◌≡◌, ◌^◌, arith, subst, [], ◌∷◌, ℕ, ◌≤◌, ℤ, pos, neg_ℤ, negsuc, suc, max, ◌+◌, ◌-ℤ◌, unsigned_abs}
use Rattle.std.proofs.lemmas.Int.{ints, by_lt_z}
use Rattle.exact.specs.Rational.{ℚ, abs_ℚ, of_int, ratio, ◌+ℚ◌, ◌-ℚ◌, ◌*ℚ◌, neg_ℚ, zero_ℚ, one_ℚ, ◌≤ℚ◌}
use Rattle.exact.proofs.RationalRing.{ring, reads}
use Rattle.exact.proofs.Order.{gap, known, le_by, le_trans, ◌⊕◌, ◌⊗◌}
use Rattle.exact.proofs.Bounds.{abs_le, le_abs, neg_le_abs}
use Rattle.exact.specs.Interval.{Interval, Inside, interval_add}
use Rattle.exact.proofs.Intervals.{interval_add_holds}
use Rattle.exact.proofs.Integers.{le_of_int}
use Rattle.sgp4_model.specs.Angle.{IsNear, part}
use Rattle.fixed_iv.specs.Extent.{size, width_of}
use Rattle.fixed_iv.specs.Holds.{Holds, IsBounded}
use Rattle.fixed_iv.specs.declared.iv.Iv.{Iv}
use Rattle.kepler_enc.specs.Point.{at}
use Rattle.kepler_enc.proofs.PointLemmas.{holds_high, holds_low}
use Rattle.kepler_enc.proofs.PointLemmas.{fraction_is_at}
use Rattle.kepler_enc.specs.Guess.{AreSized}
use Rattle.kepler_enc.specs.Spread.{about_one, within_units}
use Rattle.kepler_enc.proofs.BallLemmas.{scaled}
use Rattle.kepler_enc.proofs.RestLemmas.{rise_at}
use Rattle.kepler_enc.proofs.SizeLemmas.{at_add, at_most_half, at_most_one, at_next, at_numeral, near_size, sizes_add}
use Rattle.kepler_enc.proofs.DistanceLemmas.{at_most, at_neg, at_one, at_sum, inside_units, near_width}

pub near_abs : (x : ℚ) → IsNear (abs_ℚ x) x zero_ℚ
near_abs x = record {
  above = le_by (x ∷ abs_ℚ x ∷ []) (gap (le_abs x)) (search reads depth 90) tt;
  below = le_by (x ∷ abs_ℚ x ∷ []) (gap (neg_le_abs x)) (search reads depth 90) tt;
}

pub sizes_at : (sum : ℕ) (x y : ℚ) → AreSized sum x y → abs_ℚ x +ℚ abs_ℚ y ≤ℚ at (pos sum)
sizes_at sum x y h = rw (at_numeral sum) h

pub abs_by_near : {n x : ℚ} → IsNear n x zero_ℚ → abs_ℚ x ≤ℚ n
abs_by_near {n} {x} h = abs_le (le_by (n ∷ x ∷ []) (gap h.below) (search reads depth 90) tt) (le_by (n ∷ x ∷ []) (gap h.above) (search reads depth 90) tt)

-- numbers of bounds that are small enough together
pub sized_by : (v w : Iv) (most : ℕ) (x y : ℚ) → IsBounded v → IsBounded w → size v + size w ≤ most → Holds v x → Holds w y → AreSized most x y
sized_by v w most x y b c h k m =
    rw (← at_numeral most)
    (le_trans (le_by (abs_ℚ x ∷ abs_ℚ y ∷ at (pos (size v)) ∷ at (pos (size w)) ∷ []) (gap (abs_by_near (near_size v x b k)) ⊕ gap (abs_by_near (near_size w y c m))) (search reads depth 90) tt)
    (le_trans (sizes_add (size v) (size w)) (at_most h)))

-- an end of narrow bounds is no larger than a number within them, and their width
abs_at : (z : ℤ) (b : ℚ) → at z ≤ℚ b → neg_ℚ b ≤ℚ at z → at (pos (unsigned_abs z)) ≤ℚ b
abs_at (pos n) b h k = h
abs_at (negsuc n) b h k = flipped (at (negsuc n)) (at_neg (negsuc n)) k
  where
    flipped : (x : ℚ) → at (pos (suc n)) ≡ neg_ℚ x → neg_ℚ b ≤ℚ x → at (pos (suc n)) ≤ℚ b
    flipped x e h = rw e (le_by (b ∷ x ∷ []) (gap h) (search reads depth 90) tt)

end_near : (w e : ℚ) (x : ℚ) → IsNear w e x → (e ≤ℚ abs_ℚ x +ℚ w) × (neg_ℚ (abs_ℚ x +ℚ w) ≤ℚ e)
end_near w e x h = (
  le_by (w ∷ e ∷ x ∷ abs_ℚ x ∷ []) (gap h.above ⊕ gap (le_abs x)) (search reads depth 90) tt,
  le_by (w ∷ e ∷ x ∷ abs_ℚ x ∷ []) (gap h.below ⊕ gap (neg_le_abs x)) (search reads depth 90) tt,
)

larger_at : (m n : ℕ) (b : ℚ) → at (pos m) ≤ℚ b → at (pos n) ≤ℚ b → at (pos (max m n)) ≤ℚ b
larger_at m n b h k = by_le m n (λ e. subst (λ t. at (pos t) ≤ℚ b) (larger e) k) (λ e. subst (λ t. at (pos t) ≤ℚ b) (larger_left e) h)
  where
    by_le : {P : Type 0} (m n : ℕ) → (m ≤ n → P) → (n ≤ m → P) → P
    by_le m n f g = by_lt_z (pos n) (pos m) (λ p. g (omega (arith, ints, p))) (λ p. f (omega (arith, ints, p)))

    larger : m ≤ n → n ≡ max m n
    larger e = omega arith

    larger_left : n ≤ m → m ≡ max m n
    larger_left e = omega arith

size_about : (v : Iv) (x : ℚ) → IsBounded v → Holds v x → at (pos (size v)) ≤ℚ abs_ℚ x +ℚ at (pos (width_of v))
size_about v x b h =
    let l = end_near _ _ x (near_width v (at v.lo) x b (holds_low v) h) in
    let g = end_near _ _ x (near_width v (at v.hi) x b (holds_high v) h) in
    larger_at _ _ _ (abs_at v.lo _ l.0 l.1) (abs_at v.hi _ g.0 g.1)

of_at_most : {m n : ℕ} → at (pos m) ≤ℚ at (pos n) → m ≤ n
unfolding at
of_at_most {m} {n} h =
    let k : of_int (pos m) ≤ℚ of_int (pos n) = le_by (of_int (pos m) ∷ of_int (pos n) ∷ []) (known 281474976710656 1 ⊗ gap h) (search reads depth 90) tt in
    let l = le_of_int k in
    omega (arith, ints, l)

pub sizes_known : (v w : Iv) (sum m n : ℕ) (x y : ℚ) → IsBounded v → IsBounded w → width_of v ≤ m → width_of w ≤ n → Holds v x → Holds w y → AreSized sum x y → size v + size w ≤ sum + m + n
sizes_known v w sum m n x y b c p q h k s =
    of_at_most (rw (at_add (size v) (size w), at_add (sum + m) n, at_add sum m)
    (le_by (abs_ℚ x ∷ abs_ℚ y ∷ at (pos (size v)) ∷ at (pos (size w)) ∷ at (pos (width_of v)) ∷ at (pos (width_of w)) ∷ at (pos sum) ∷ at (pos m) ∷ at (pos n) ∷ [])
    (gap (size_about v x b h) ⊕ gap (size_about w y c k) ⊕ gap (at_most p) ⊕ gap (at_most q) ⊕ gap (sizes_at sum x y s)) (search reads depth 90) tt))

-- the steepness is as near to 1 as the sizes tell
pub rise_inside : (ax ay s c a b : ℚ) (sum : ℕ) → IsNear a ax zero_ℚ → IsNear b ay zero_ℚ → a +ℚ b ≤ℚ at (pos sum) → sum ≤ 2 ^ 47 → IsNear (part 60 +ℚ one_ℚ) s zero_ℚ → IsNear (part 60 +ℚ one_ℚ) c zero_ℚ →
    Inside (about_one (sum + 1)) (rise_at ax ay s c)
rise_inside ax ay s c a b sum of_ax of_ay sizes half sine cosine =
    let x = scaled ax of_ax cosine in
    let y = scaled ay of_ay sine in
    let h = at_most_half half in
    record {
      low = rw (fraction_is_at (pos 281474976710656 -ℤ pos (sum + 1)), at_sum (pos 281474976710656) (neg_ℤ (pos (sum + 1))), at_neg (pos (sum + 1)), at_one, at_next sum)
          (le_by (ax ∷ ay ∷ s ∷ c ∷ a ∷ b ∷ at (pos sum) ∷ []) (gap x.above ⊕ gap y.above ⊕ (known 1 1 ⊕ known 1 (2 ^ 60)) ⊗ gap sizes ⊕ known 1 (2 ^ 60) ⊗ gap h ⊕ known 8191 (2 ^ 61)) (search reads depth 90) tt);
      high = rw (fraction_is_at (pos (281474976710656 + (sum + 1))), at_add 281474976710656 (sum + 1), at_one, at_next sum)
          (le_by (ax ∷ ay ∷ s ∷ c ∷ a ∷ b ∷ at (pos sum) ∷ []) (gap x.below ⊕ gap y.below ⊕ (known 1 1 ⊕ known 1 (2 ^ 60)) ⊗ gap sizes ⊕ known 1 (2 ^ 60) ⊗ gap h ⊕ known 8191 (2 ^ 61)) (search reads depth 90) tt);
    }

-- an angle that leaves n units at most lies within 2 of u
pub tried_inside : (i : Interval) (u ax ay angle s c a b l : ℚ) (n : ℕ) → Inside i u → IsNear a ax zero_ℚ → IsNear b ay zero_ℚ → a +ℚ b ≤ℚ l → l ≤ℚ ratio (pos 1) 2 →
    IsNear (part 60 +ℚ one_ℚ) s zero_ℚ → IsNear (part 60 +ℚ one_ℚ) c zero_ℚ → n ≤ 2 ^ 48 → IsNear (at (pos n)) (angle +ℚ ay *ℚ c -ℚ ax *ℚ s -ℚ u) zero_ℚ →
    Inside (interval_add i (within_units (2 ^ 49))) angle
tried_inside i u ax ay angle s c a b l n h of_ax of_ay sizes half sine cosine small left =
    subst (Inside (interval_add i (within_units (2 ^ 49)))) (ring (u ∷ angle ∷ []) (search reads depth 90) tt)
    (interval_add_holds i (within_units (2 ^ 49)) u (angle -ℚ u) h (inside_units (2 ^ 49) (angle -ℚ u) (rw (at_numeral (2 ^ 49)) near)))
  where
    near : IsNear (ratio (pos 562949953421312) 281474976710656) (angle -ℚ u) zero_ℚ
    near =
        let x = scaled ax of_ax sine in
        let y = scaled ay of_ay cosine in
        let one = at_most_one small in
        record {
          above = le_by (u ∷ ax ∷ ay ∷ angle ∷ s ∷ c ∷ a ∷ b ∷ l ∷ at (pos n) ∷ []) (gap left.above ⊕ gap one ⊕ gap x.above ⊕ gap y.below ⊕ (known 1 1 ⊕ known 1 (2 ^ 60)) ⊗ (gap sizes ⊕ gap half) ⊕ known 1152921504606846975 (2 ^ 61)) (search reads depth 90) tt;
          below = le_by (u ∷ ax ∷ ay ∷ angle ∷ s ∷ c ∷ a ∷ b ∷ l ∷ at (pos n) ∷ []) (gap left.below ⊕ gap one ⊕ gap x.below ⊕ gap y.above ⊕ (known 1 1 ⊕ known 1 (2 ^ 60)) ⊗ (gap sizes ⊕ gap half) ⊕ known 1152921504606846975 (2 ^ 61)) (search reads depth 90) tt;
        }
