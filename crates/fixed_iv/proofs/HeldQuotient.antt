-- What numerals say of a dividend and a divisor, they say of their quotient.
use Rattle.std.proofs.Common.{◌≡◌, arith, subst, [], ◌∷◌, inl, inr, zero, suc, ℕ, ◌+◌, ◌*◌, ◌/◌, ◌^◌, ◌<◌, ◌≤◌, max, T, Bool, ltb, ℤ, pos, negsuc, neg_ℤ, ◌+ℤ◌, ◌≤ℤ◌, ◌<ℤ◌, le_refl as nat_refl}
use Rattle.std.proofs.Math.Nat.{mul-le-mul}
use Rattle.std.proofs.lemmas.Nat.{le-div}
use Rattle.std.proofs.lemmas.Int.{ints}
use Rattle.exact.specs.Rational.{ℚ, inverse, of_int, ◌/ℚ◌, neg_ℚ, zero_ℚ, ◌≤ℚ◌}
use Rattle.exact.proofs.RationalRing.{ring, reads}
use Rattle.exact.proofs.Order.{gap, le_by}
use Rattle.exact.proofs.Strict.{Positive, positive_known, positive_product}
use Rattle.exact.proofs.Integers.{of_int_neg}
use Rattle.exact.specs.Interval.{interval_mul}
use Rattle.exact.proofs.Intervals.{interval_mul_holds}
use Rattle.fixed_iv.specs.Ends.{in_units}
use Rattle.fixed_iv.specs.Extent.{AreSmall, Extent, size}
use Rattle.fixed_iv.specs.Holds.{Holds}
use Rattle.fixed_iv.specs.Narrow.{IsApart, IsNarrowQuotient}
use Rattle.fixed_iv.specs.Place.{Place}
use Rattle.fixed_iv.specs.Reach.{Reach, IsHeld, IsKnown, above_0, distance, grain, highest, interval_inverse, is_small, lowest, outer, outer_size, units_above, units_below, ◌/ᴿ◌}
use Rattle.fixed_iv.specs.Results.{IsResultOf}
use Rattle.fixed_iv.specs.declared.iv.Iv.{Iv}
use Rattle.fixed_iv.proofs.EndLemmas.{at_le, le_at}
use Rattle.fixed_iv.proofs.Held.{Contained, by_rule}
use Rattle.fixed_iv.proofs.InverseLemmas.{IsOneSided, inverse_holds}
use Rattle.fixed_iv.proofs.OuterLemmas.{below_is, both, ends_high, ends_low, fraction_is_at, in_outer, is_above, size_known, small_holds}
use Rattle.fixed_iv.proofs.QuotientLemmas.{positive_divisor}

-- ---- on which side of 0 the divisor lies
-- the least and the greatest end that there can be lie on one side of 0, at least d units from it
data IsAway (l h : ℤ) (d : ℕ) : Type 0 where
  above : pos d ≤ℤ l → IsAway l h d
  below : (h +ℤ pos d) ≤ℤ pos 0 → IsAway l h d

away : (l h : ℤ) → l ≤ℤ h → T (ltb 0 (max (above_0 l) (above_0 (neg_ℤ h)))) → IsAway l h (max (above_0 l) (above_0 (neg_ℤ h)))
away (pos l) (pos zero) o t = above (omega (arith, ints))
away (pos l) (pos (suc h)) o t = above (omega (arith, ints))
away (pos l) (negsuc h) o t = absurd (omega (arith, ints, o))
away (negsuc l) (pos zero) o t = absurd t
away (negsuc l) (pos (suc h)) o t = absurd t
away (negsuc l) (negsuc h) o t = below (omega (arith, ints))

positive_test : (d : ℕ) → T (ltb 0 d) → 0 < d
positive_test zero t = absurd t
positive_test (suc d) t = omega arith

positive_of_units : (x : ℚ) → Positive (in_units x) → Positive x
positive_of_units x p = subst Positive (ring (x ∷ []) (search reads depth 90) tt) (positive_product p (positive_known 0 281474976710656))

positive_by_low : (z : ℤ) (x : ℚ) → of_int z ≤ℚ in_units x → pos 0 <ℤ z → Positive x
positive_by_low z x h p = positive_of_units x (positive_divisor {least = z} p h)

positive_by_high : (z : ℤ) (x : ℚ) → in_units x ≤ℚ of_int z → z <ℤ pos 0 → Positive (neg_ℚ x)
positive_by_high z x h p = positive_of_units (neg_ℚ x) (positive_divisor {least = neg_ℤ z} (omega (arith, ints)) (rw of_int_neg (le_by (of_int z ∷ x ∷ []) (gap h) (search reads depth 90) tt)))

range_sided : (r : Reach) (d : ℕ) → 0 < d → IsAway (lowest r) (highest r) d → IsOneSided r.range
range_sided r d p (above h) = inl (positive_by_low (units_below r.range.low) _ (below_is r.range.low) (omega (arith, ints)))
range_sided r d p (below h) = inr (positive_by_high (units_above r.range.high) _ (is_above r.range.high) (omega (arith, ints)))

outer_sided : (r : Reach) (d : ℕ) → 0 < d → IsAway (lowest r) (highest r) d → IsOneSided (outer r)
outer_sided r d p (above h) = inl (positive_by_low (lowest r) _ (rw (fraction_is_at (lowest r)) (le_at (omega (arith, ints)))) (omega (arith, ints)))
outer_sided r d p (below h) = inr (positive_by_high (highest r) _ (rw (fraction_is_at (highest r)) (at_le (omega (arith, ints)))) (omega (arith, ints)))

apart_by : (v : Iv) (l h : ℤ) (d : ℕ) → l ≤ℤ v.lo → v.hi ≤ℤ h → IsAway l h d → IsApart v d
apart_by v l h d p q (above k) = inl (omega (arith, ints, p, k))
apart_by v l h d p q (below k) = inr (omega (arith, ints, q, k))

-- ---- the quotient
within_quotient : (n x y k : ℕ) → 0 < k → x ≤ y → n * k ≤ x + 2 * k → n ≤ y / k + 2
within_quotient zero x y k p q h = omega arith
within_quotient (suc zero) x y k p q h = omega arith
within_quotient (suc (suc n)) x y k p q h = let l = le-div n y k p (omega (arith, h, q)) in omega (arith, l)

known_divided : (e f r : Extent) (x y : ℚ) (p q : Reach) → IsNarrowQuotient e f r → Holds e.ends x → Holds f.ends y →
    IsKnown e x p.range p.spread → IsKnown f y q.range q.spread → T (ltb 0 (distance q)) → T (is_small (interval_mul grain (outer p) (interval_inverse (outer q)))) →
    IsKnown r (x /ℚ y) (interval_mul grain p.range (interval_inverse q.range))
    ((p.spread * 281474976710656 * distance q + outer_size p * q.spread * 281474976710656) / (distance q * distance q) + 2)
known_divided e f r x y p q rule hx hy k l d t =
    let positive = positive_test (distance q) d in
    let low = ends_low f y q l hy in
    let high = ends_high f y q l hy in
    let side = away (lowest q) (highest q) (omega (arith, ints, low, high, f.ends.ordered)) d in
    by_rule r _ _ _ (rule (distance q) positive) ((k.measured, l.measured), apart_by f.ends _ _ _ low high side)
    (small (outer_sided q _ positive side))
    (interval_mul_holds grain p.range (interval_inverse q.range) x (inverse y) k.inside (inverse_holds q.range y (range_sided q _ positive side) l.inside))
    (limit r.spread e.spread (size e.ends) f.spread p.spread (outer_size p) q.spread (distance q) positive k.narrow (size_known e x p k hx) l.narrow)
  where
    small : IsOneSided (outer q) → AreSmall (IsResultOf ◌/ℚ◌ e.ends f.ends)
    small o z w = rw w.is (small_holds (interval_mul grain (outer p) (interval_inverse (outer q))) (w.left /ℚ w.right) t
        (interval_mul_holds grain (outer p) (interval_inverse (outer q)) w.left (inverse w.right) (in_outer e x p k hx w.left w.of_left)
        (inverse_holds (outer q) w.right o (in_outer f y q l hy w.right w.of_right))))

    limit : (n a s b A S B d : ℕ) → 0 < d → a ≤ A → s ≤ S → b ≤ B → n * (d * d) ≤ a * 2 ^ 48 * d + s * b * 2 ^ 48 + 2 * (d * d) →
        n ≤ (A * 281474976710656 * d + S * B * 281474976710656) / (d * d) + 2
    limit n a s b A S B d p f g h t =
        within_quotient n (a * 281474976710656 * d + s * b * 281474976710656) (A * 281474976710656 * d + S * B * 281474976710656) (d * d) (mul-le-mul p p)
        (sum _ _ _ _ (mul-le-mul (mul-le-mul f (nat_refl 281474976710656)) (nat_refl d)) (mul-le-mul (mul-le-mul g h) (nat_refl 281474976710656))) t
      where
        sum : (w x y z : ℕ) → w ≤ y → x ≤ z → w + x ≤ y + z
        sum w x y z p q = omega arith

pub divided_held : {A : Type 0} {C : A → Place → ℚ → Type 0} {E : A → Extent} {told : Bool} → Contained C E → {a b r : A} {h : Place} {x y : ℚ} {p q : Reach} →
    ((h : Place) (x y : ℚ) → C a h x → C b h y → ¬ (y ≡ zero_ℚ) → C r h (x /ℚ y)) → (T told → IsNarrowQuotient (E a) (E b) (E r)) → ¬ (y ≡ zero_ℚ) →
    IsHeld C E told a h x p → IsHeld C E told b h y q → IsHeld C E told r h (x /ℚ y) (p /ᴿ q)
unfolding ◌/ᴿ◌
divided_held {E = E} law {a} {b} {r} {h} {x} {y} {p} {q} covers narrow nonzero k l =
    record {
      covers = covers h x y k.covers l.covers nonzero;
      known = λ told t. let t0 = both _ _ t in let t1 = both _ _ t0.0 in let t2 = both _ _ t1.0 in
          known_divided (E a) (E b) (E r) x y p q (narrow told) (law a h x k.covers) (law b h y l.covers) (k.known told t2.0) (l.known told t2.1) t1.1 t0.1;
    }
