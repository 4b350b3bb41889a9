-- Enclosures that are made of given intervals: pi, ratios, lines, and the greater of a value and a given one.
use Rattle.std.proofs.Common.{◌≡◌, refl, arith, subst, [], ℕ, suc, ◌^◌, ◌≤◌, T, Bool, ℤ, pos, ◌-ℤ◌, ◌≤ℤ◌}
use Rattle.std.proofs.lemmas.Int.{ints}
use lib.Signed.{non_neg}
use Rattle.exact.specs.Rational.{ℚ, ratio, of_int, ◌+ℚ◌, ◌≤ℚ◌}
use Rattle.exact.specs.Interval.{Coef, number_of, Interval, Inside, just}
use Rattle.exact.proofs.RationalRing.{reads}
use Rattle.exact.proofs.Order.{known, le_by, le_trans}
use Rattle.exact.proofs.Intervals.{just_holds}
use Rattle.sgp4_model.specs.Angle.{IsPi, least_pi}
use Rattle.fixed_iv.specs.Ends.{in_units}
use Rattle.fixed_iv.specs.Extent.{AreSmall, Extent, extent_of, width_of}
use Rattle.fixed_iv.specs.Holds.{Holds, IsTightest}
use Rattle.fixed_iv.specs.Narrow.{IsNarrowPi}
use Rattle.fixed_iv.specs.Place.{Place}
use Rattle.fixed_iv.specs.Reach.{IsGiven, IsHeld, IsKnown, is_small, outer, pi_range, pi_reach, reach_of, units_above, units_below}
use Rattle.fixed_iv.specs.Results.{IsRatio}
use Rattle.fixed_iv.specs.declared.iv.Iv.{Iv}
use Rattle.fixed_iv.proofs.Held.{by_rule}
use Rattle.fixed_iv.proofs.NarrowLemmas.{measured_of}
use Rattle.fixed_iv.proofs.OuterLemmas.{below_is, in_outer, is_above, number_ratio, small_holds, width_is}
use Rattle.fixed_iv.proofs.WidthLemmas.{high_over, low_under, tight_bounded}

-- ---- pi
in_pi : (p : ℚ) → IsPi p → Inside pi_range p
unfolding ratio
in_pi p h = record { low = h.low; high = le_trans h.high end }
  where
    end : least_pi +ℚ ratio (pos 1) (10 ^ 36) ≤ℚ ratio (pos 3141592653589793238462643383279502885) (10 ^ 36)
    end = le_by [] (known 0 1) (search reads depth 90) tt

pub pi_held : {A : Type 0} {C : A → Place → ℚ → Type 0} {E : A → Extent} {told : Bool} → {r : A} {h : Place} {p : ℚ} →
    ((h : Place) (p : ℚ) → IsPi p → C r h p) → (T told → IsNarrowPi (E r)) → IsPi p → IsHeld C E told r h p pi_reach
pi_held {E = E} {r = r} {h} {p} covers narrow i =
    record { covers = covers h p i; known = λ told _. by_rule (E r) p pi_range 1 (narrow told) tt (λ z k. small_holds pi_range z tt (in_pi z k)) (in_pi p i) (λ n. n) }

-- ---- the interval of a ratio
in_just : (n : ℤ) (d : ℕ) → Inside (just (record { num = n; under = d })) (ratio n (suc d))
in_just n d = subst (Inside (just (record { num = n; under = d }))) (number_ratio (record { num = n; under = d })) (just_holds (record { num = n; under = d }))

-- The tightest interval of n / (d + 1) is given, at most w units wide. The last two arguments are `tt`.
pub ratio_given : {v : Iv} (n : ℤ) (d w : ℕ) → IsTightest (IsRatio n (pos (suc d))) v →
    T (is_small (just (record { num = n; under = d }))) →
    T (non_neg (pos w -ℤ (units_above (record { num = n; under = d }) -ℤ units_below (record { num = n; under = d })))) →
    IsGiven v (ratio n (suc d)) (just (record { num = n; under = d })) w
ratio_given {v} n d w t s width =
    let b = tight_bounded t small in
    let l = low_under (units_below c) t b refl (λ y e. rw e (at_ratio (λ z. of_int (units_below c) ≤ℚ in_units z) (below_is c))) in
    let h = high_over (units_above c) t b refl (λ y e. rw e (at_ratio (λ z. in_units z ≤ℚ of_int (units_above c)) (is_above c))) in
    record { holds = t.holds _ refl; bounded = b; within = narrow v.lo v.hi (units_below c) (units_above c) (width_of v) w (width_is v) l h width; inside = in_just n d }
  where
    c : Coef
    c = record { num = n; under = d }

    at_ratio : (P : ℚ → Type 0) → P (number_of c) → P (ratio n (suc d))
    at_ratio P k = subst P (number_ratio c) k

    small : AreSmall (IsRatio n (pos (suc d)))
    small z e = rw e (small_holds (just c) (ratio n (suc d)) s (in_just n d))

    narrow : (lo hi l h : ℤ) (n w : ℕ) → pos n ≡ hi -ℤ lo → l ≤ℤ lo → hi ≤ℤ h → T (non_neg (pos w -ℤ (h -ℤ l))) → n ≤ w
    narrow lo hi l h n w e p q t = omega (arith, ints, t)

-- ---- given intervals
-- a given interval as an enclosure that is known
pub known_given : {v : Iv} {x : ℚ} {i : Interval} {n : ℕ} → IsGiven v x i n → IsKnown (extent_of v) x i n
known_given {v} g = record { inside = g.inside; measured = measured_of v g.bounded; narrow = g.within }

-- a number that the interval holds is small where the numerals are
pub small_given : {v : Iv} {x : ℚ} {i : Interval} {n : ℕ} → IsGiven v x i n → (z : ℚ) → Holds v z → Inside (outer (reach_of i n)) z
small_given {v} {x} {i} {n} g z k = in_outer (extent_of v) x (reach_of i n) (known_given g) g.holds z k
