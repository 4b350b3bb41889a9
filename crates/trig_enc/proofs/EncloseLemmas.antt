-- The code's pair is near each pair of each number that an interval holds.
use Rattle.std.proofs.Common.{◌≡◌, arith, sym, subst, ap, ◌∙◌, refl, ℕ, suc, ◌-◌, ◌*◌, ◌/◌, ◌^◌, [], ◌∷◌, ℤ, pos, negsuc, ◌≤ℤ◌, ◌+ℤ◌, ◌-ℤ◌, ◌≤◌, div-add-mod', mod-lt, zero-lt-suc, to_z, of_z, w64}
use Rattle.std.proofs.lemmas.Int.{ints, to_z-of_z}
use lib.IntN.{nat_abs}
use Rattle.fixed_iv.proofs.EndLemmas.{low_end_fits}
use Rattle.trig_enc.proofs.WholeLemmas.{wide, kept_wide}
use Rattle.exact.specs.Rational.{ℚ, of_int, ratio, ◌+ℚ◌, ◌-ℚ◌, ◌*ℚ◌, neg_ℚ, one_ℚ, zero_ℚ, ◌≤ℚ◌}
use Rattle.exact.proofs.RationalRing.{ring, reads}
use Rattle.exact.proofs.Order.{NonNeg, gap, known, le_by, le_trans, ◌⊕◌, ◌⊗◌}
use Rattle.exact.proofs.Integers.{of_int_add, of_int_mul, of_int_neg, of_int_is, of_int_le}
use Rattle.sgp4_model.specs.AngleSums.{cosine_sum}
use Rattle.sgp4_model.specs.Angle.{IsPi, IsNear, IsSinCos, quadrant, turned, part, least_pi}
use Rattle.sgp4_model.specs.PairLaws.{IsModest}
use Rattle.sgp4_model.proofs.Horner.{cosine_neg}
use Rattle.sgp4_model.proofs.InCode.{shifted_point}
use Rattle.sgp4_model.proofs.Lipschitz.{sine_pairs_are_lipschitz}
use Rattle.sgp4_model.proofs.Pythagoras.{sine_pairs_are_bounded}
use Rattle.sgp4_model.proofs.AngleSpan.{sums}
use Rattle.fixed_iv.specs.Ends.{in_units}
use Rattle.fixed_iv.specs.Holds.{Holds, IsBounded}
use Rattle.fixed_iv.specs.declared.iv.Iv.{Iv}
use Rattle.trig_enc.specs.Coded.{IsCodedCosine, IsCodedPair, IsReducedCode, IsSignedSine, coded, decoded}
use Rattle.trig_enc.specs.Enclose.{HoldsNear}
use Rattle.trig_enc.proofs.Rounding.{le_same}

-- an angle that is so many units from each end of an interval, or less
pub record IsCentre (x : Iv) (middle : ℤ) (radius : ℕ) : Type 0 where
  pub low : (middle -ℤ pos radius) ≤ℤ x.lo
  pub high : x.hi ≤ℤ (middle +ℤ pos radius)
  pub least : pos 0 ≤ℤ (middle +ℤ pos 9223372036854775808)
  pub most : middle ≤ℤ pos 9223372036854775808

-- the angle that the sums are taken of
abbrev shifted : ℚ → ℤ → ℤ → ℚ
shifted pi k rest = decoded rest +ℚ of_int k *ℚ (ratio (pos 1) 2 *ℚ pi)

-- a whole number between two others, among the rationals
above : (n : ℤ) (m : ℕ) → pos 0 ≤ℤ (n +ℤ pos m) → zero_ℚ ≤ℚ of_int n +ℚ ratio (pos m) 1
above n m h = rw (← of_int_is (pos m), ← of_int_add) (le_trans (le_same (sym (of_int_is (pos 0)))) (of_int_le h))

below : (n : ℤ) (m : ℕ) → n ≤ℤ pos m → of_int n ≤ℚ ratio (pos m) 1
below n m h = rw (← of_int_is (pos m)) (of_int_le h)

-- the whole quarter turns differ from the true ones by less than half a unit
slip : (pi k y c : ℚ) → IsPi pi → zero_ℚ ≤ℚ k +ℚ ratio (pos 20861) 1 → k ≤ℚ ratio (pos 20861) 1 → c *ℚ ratio (pos 16384) 1 ≡ k *ℚ ratio (pos 7244019458077122842) 1 +ℚ y →
    IsNear (ratio (pos 1) 2) (in_units (ratio (pos 1) 4611686018427387904 *ℚ y +ℚ k *ℚ (ratio (pos 1) 2 *ℚ pi))) c
slip pi k y c h l m e =
    record {
      above =
          le_by (pi ∷ k ∷ y ∷ c ∷ [])
          (known 1 16384 ⊗ (gap (le_same (sym e)) ⊕ gap m ⊗ delta ⊕ known 20861 1 ⊗ known (2 ^ 61) 1 ⊗ gap h.high) ⊕ known 254038787146597459006585973 23841857910156250000000000000)
          (search reads depth 90) tt;
      below =
          le_by (pi ∷ k ∷ y ∷ c ∷ [])
          (known 1 16384 ⊗ (gap (le_same e) ⊕ gap l ⊗ delta ⊕ known 20861 1 ⊗ known (2 ^ 61) 1 ⊗ gap h.high) ⊕ known 254038787146597459006585973 23841857910156250000000000000)
          (search reads depth 90) tt;
    }
  where
    delta : NonNeg (ratio (pos (2 ^ 61)) 1 *ℚ (pi -ℚ least_pi) +ℚ ratio (pos 5592680201299807042325638) 14551915228366851806640625)
    delta = known (2 ^ 61) 1 ⊗ gap h.low ⊕ known 5592680201299807042325638 14551915228366851806640625

-- the number's distance to the point that the sums are taken of
to_point : (number c r point : ℚ) → c -ℚ r ≤ℚ in_units number → in_units number ≤ℚ c +ℚ r → IsNear (ratio (pos 1) 2) (in_units point) c →
    IsNear (ratio (pos 1) (2 ^ 48) *ℚ (r +ℚ ratio (pos 1) 2)) number point
to_point number c r point l m h =
    record {
      above = le_by (number ∷ c ∷ r ∷ point ∷ []) (known 1 (2 ^ 48) ⊗ (gap m ⊕ gap h.below)) (search reads depth 90) tt;
      below = le_by (number ∷ c ∷ r ∷ point ∷ []) (known 1 (2 ^ 48) ⊗ (gap l ⊕ gap h.above)) (search reads depth 90) tt;
    }

-- angles in range
modest_number : (number : ℚ) (x : Iv) → IsBounded x → Holds x number → IsModest number
modest_number number x b h =
    record {
      low = le_by (number ∷ of_int x.lo ∷ []) (known 1 (2 ^ 48) ⊗ (gap (h.low b.low) ⊕ gap (above (x.lo) 9223372036854775808 (omega (arith, ints, b.low)))) ⊕ known 1015808 1) (search reads depth 90) tt;
      high = le_by (number ∷ of_int x.hi ∷ []) (known 1 (2 ^ 48) ⊗ (gap (h.high b.high) ⊕ gap (below (x.hi) 9223372036854775808 (omega (arith, ints, b.high)))) ⊕ known 1015808 1) (search reads depth 90) tt;
    }

modest_point : (c point : ℚ) → zero_ℚ ≤ℚ c +ℚ ratio (pos 9223372036854775808) 1 → c ≤ℚ ratio (pos 9223372036854775808) 1 → IsNear (ratio (pos 1) 2) (in_units point) c → IsModest point
modest_point c point l m h =
    record {
      low = le_by (c ∷ point ∷ []) (known 1 (2 ^ 48) ⊗ (gap h.below ⊕ gap l ⊕ known 1 2) ⊕ known (1015808 * 2 ^ 48 - 1) (2 ^ 48)) (search reads depth 90) tt;
      high = le_by (c ∷ point ∷ []) (known 1 (2 ^ 48) ⊗ (gap h.above ⊕ gap m ⊕ known 1 2) ⊕ known (1015808 * 2 ^ 48 - 1) (2 ^ 48)) (search reads depth 90) tt;
    }

-- what is left of the angle is at most a quarter of the least pi
rest_low : (rest : ℤ) → pos 0 ≤ℤ (rest +ℤ pos 3622009729038561421) → neg_ℚ (ratio (pos 1) 4 *ℚ least_pi) ≤ℚ decoded rest
rest_low rest h = le_by (of_int rest ∷ []) (known 1 (2 ^ 62) ⊗ gap (above (rest) 3622009729038561421 h) ⊕ known 2796340100649903521162819 67108864000000000000000000000000000000000000) (search reads depth 90) tt

rest_high : (rest : ℤ) → rest ≤ℤ pos 3622009729038561421 → decoded rest ≤ℚ ratio (pos 1) 4 *ℚ least_pi
rest_high rest h = le_by (of_int rest ∷ []) (known 1 (2 ^ 62) ⊗ gap (below (rest) 3622009729038561421 h) ⊕ known 2796340100649903521162819 67108864000000000000000000000000000000000000) (search reads depth 90) tt

-- the cosine of the size of an angle is the angle's
size_cosine : (rest : ℤ) → cosine_sum (decoded (pos (nat_abs rest))) ≡ cosine_sum (decoded rest)
size_cosine (pos n) = refl
size_cosine (negsuc n) = sym (cosine_neg (decoded (pos (suc n)))) ∙ ap cosine_sum (opposite (of_int (pos (suc n))) ∙ ap (λ t. ratio (pos 1) 4611686018427387904 *ℚ t) (sym (of_int_neg (pos (suc n)))))
  where
    opposite : (a : ℚ) → neg_ℚ (ratio (pos 1) 4611686018427387904 *ℚ a) ≡ ratio (pos 1) 4611686018427387904 *ℚ neg_ℚ a
    opposite a = ring (a ∷ []) (search reads depth 90) tt

-- the code's sine and cosine are those of what is left
pub sums_coded : (rest sine cosine : ℤ) (size result : ℕ) → size ≡ nat_abs rest → cosine ≡ pos result → IsSignedSine rest sine → IsCodedCosine size result → IsCodedPair sine cosine (sums (decoded rest))
sums_coded rest sine cosine size result e f s c =
    record {
      sine_near = s;
      cosine_near = rw f (subst (λ t. IsNear (ratio (pos 4) 1) (of_int (pos result)) (coded t)) (ap (λ n. cosine_sum (decoded (pos n))) e ∙ size_cosine rest) c);
    }

-- a number of the pair, its value in the code, and the point's
near_value : (r s t v : ℚ) → IsNear (ratio (pos 1) (2 ^ 48) *ℚ (r +ℚ ratio (pos 1) 2) +ℚ part 57) s t → IsNear (ratio (pos 4) 1) v (coded t) →
    IsNear (r +ℚ one_ℚ) (in_units s) (ratio (pos 1) 16384 *ℚ v)
near_value r s t v h k =
    record {
      above = le_by (r ∷ s ∷ t ∷ v ∷ []) (known (2 ^ 48) 1 ⊗ gap h.above ⊕ known 1 16384 ⊗ gap k.below ⊕ known 2039 4096) (search reads depth 90) tt;
      below = le_by (r ∷ s ∷ t ∷ v ∷ []) (known (2 ^ 48) 1 ⊗ gap h.below ⊕ known 1 16384 ⊗ gap k.above ⊕ known 2039 4096) (search reads depth 90) tt;
    }

back : (m r : ℤ) → m ≡ (m -ℤ r) +ℤ r
back m r = omega (arith, ints)

centre_low : {x : Iv} {middle : ℤ} {radius : ℕ} → IsCentre x middle radius → of_int middle -ℚ of_int (pos radius) ≤ℚ of_int x.lo
centre_low {x} {middle} {radius} h = le_trans (le_same difference) (of_int_le h.low)
  where
    difference : of_int middle -ℚ of_int (pos radius) ≡ of_int (middle -ℤ pos radius)
    difference =
        ap (λ t. t -ℚ of_int (pos radius)) (ap of_int (back middle (pos radius)) ∙ of_int_add (middle -ℤ pos radius) (pos radius))
        ∙ ring (of_int (middle -ℤ pos radius) ∷ of_int (pos radius) ∷ []) (search reads depth 90) tt

centre_high : {x : Iv} {middle : ℤ} {radius : ℕ} → IsCentre x middle radius → of_int x.hi ≤ℚ of_int middle +ℚ of_int (pos radius)
centre_high {x} {middle} {radius} h = rw (← of_int_add) (of_int_le h.high)

-- the reduction among the rationals
reduction : {middle k rest : ℤ} → IsReducedCode middle k rest → of_int middle *ℚ ratio (pos 16384) 1 ≡ of_int k *ℚ ratio (pos 7244019458077122842) 1 +ℚ of_int rest
reduction {middle} {k} {rest} h = rw (← of_int_is (pos 16384), ← of_int_is (pos 7244019458077122842), ← of_int_mul, ← of_int_mul, ← of_int_add) (ap of_int h.is)

-- both numbers of a pair are near the code's
pub record IsNearCode (radius : ℕ) (s c : ℚ) (sine cosine : ℤ) : Type 0 where
  pub sine_near : IsNear (of_int (pos radius) +ℚ one_ℚ) (in_units s) (ratio (pos 1) 16384 *ℚ of_int sine)
  pub cosine_near : IsNear (of_int (pos radius) +ℚ one_ℚ) (in_units c) (ratio (pos 1) 16384 *ℚ of_int cosine)

pub near_code : (x : Iv) (middle k rest sine cosine : ℤ) (radius : ℕ) → IsBounded x → IsCentre x middle radius → IsReducedCode middle k rest →
    IsCodedPair sine cosine (turned (quadrant k) (sums (decoded rest))) →
    (pi number s c : ℚ) → IsPi pi → Holds x number → IsSinCos pi number s c → IsNearCode radius s c sine cosine
near_code x middle k rest sine cosine radius b centre reduced code pi number s c h held pair =
    let point : ℚ = shifted pi k rest in
    let near : IsNear (ratio (pos 1) 2) (in_units point) (of_int middle) =
    slip pi (of_int k) (of_int rest) (of_int middle) h (above (k) 20861 reduced.quarters_least) (below (k) 20861 reduced.quarters_most) (reduction reduced) in
    let distance : IsNear (ratio (pos 1) (2 ^ 48) *ℚ (of_int (pos radius) +ℚ ratio (pos 1) 2)) number point =
    to_point number (of_int middle) (of_int (pos radius)) point (le_trans (centre_low centre) (held.low b.low)) (le_trans (held.high b.high) (centre_high centre)) near in
    let at_point : IsSinCos pi point (turned (quadrant k) (sums (decoded rest))).sine (turned (quadrant k) (sums (decoded rest))).cosine =
    shifted_point pi (decoded rest) k h (rest_low rest reduced.rest_least) (rest_high rest (omega (arith, ints, reduced.rest_most))) in
    let both = sine_pairs_are_lipschitz pi pi number point _ s c _ _ h h (modest_number number x b held) (modest_point (of_int middle) point (above (middle) 9223372036854775808 centre.least) (below (middle) 9223372036854775808 centre.most) near) distance pair at_point in
    record {
      sine_near = near_value (of_int (pos radius)) s _ (of_int sine) both.0 code.sine_near;
      cosine_near = near_value (of_int (pos radius)) c _ (of_int cosine) both.1 code.cosine_near;
    }

-- what two intervals about the code's values hold
pub held_around : (x sines cosines : Iv) (middle k rest sine cosine : ℤ) (radius : ℕ) → IsBounded x → IsCentre x middle radius → IsReducedCode middle k rest →
    IsCodedPair sine cosine (turned (quadrant k) (sums (decoded rest))) → HoldsNear sine radius sines → HoldsNear cosine radius cosines →
    (pi number s c : ℚ) → IsPi pi → Holds x number → IsSinCos pi number s c → Holds sines s × Holds cosines c
held_around x sines cosines middle k rest sine cosine radius b centre reduced code of_sine of_cosine pi number s c h held pair =
    let near = near_code x middle k rest sine cosine radius b centre reduced code pi number s c h held pair in
    let small = sine_pairs_are_bounded pi number s c h pair in
    (of_sine s small.0 near.sine_near, of_cosine c small.1 near.cosine_near)

half_under : (w : ℕ) → 2 * (w / 2) ≤ w
half_under w = omega (arith, div-add-mod' w 2, mod-lt w (zero-lt-suc 1))

-- the middle as the code has it
pub centre_is : (x : Iv) (width : ℕ) (a b : ℤ) → IsBounded x → pos width ≡ x.hi -ℤ x.lo → a ≡ to_z w64 (of_z w64 x.lo) → b ≡ pos (width / 2) → IsCentre x (wide (wide a +ℤ wide b)) (width - width / 2)
centre_is x width a b bounded e f g =
    let n : a ≡ x.lo = f ∙ to_z-of_z w64 x.lo (low_end_fits x.lo x.low_end) in
    let low : wide x.lo ≡ x.lo = kept_wide x.lo (record { least = omega (arith, ints, bounded.low); most = omega (arith, ints, x.ordered, bounded.high) }) in
    let size : width ≤ 18446744073709551616 = omega (arith, ints, e, bounded.low, bounded.high) in
    let half : wide (pos (width / 2)) ≡ pos (width / 2) = kept_wide (pos (width / 2)) (record { least = omega (arith, ints); most = omega (arith, ints, size, half_under width) }) in
    let sum : wide (x.lo +ℤ pos (width / 2)) ≡ x.lo +ℤ pos (width / 2) =
    kept_wide (x.lo +ℤ pos (width / 2)) (record { least = omega (arith, ints, bounded.low); most = omega (arith, ints, x.ordered, bounded.high, size, half_under width) }) in
    rw (n, g, low, half, sum)
    (record {
      low = omega (arith, ints, half_under width);
      high = omega (arith, ints, half_under width, e);
      least = omega (arith, ints, bounded.low);
      most = omega (arith, ints, half_under width, e, bounded.high, x.ordered);
    })
