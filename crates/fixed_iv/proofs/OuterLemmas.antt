-- Where the bounds of a known enclosure lie, and how large they are.
use Rattle.std.proofs.Common.{◌≡◌, refl, arith, ap, sym, subst, ◌∙◌, [], ◌∷◌, ℕ, suc, ◌≤◌, max, Bool, true, false, ◌&&◌, T, ℤ, pos, negsuc, ◌+ℤ◌, ◌-ℤ◌, ◌*ℤ◌, ◌≤ℤ◌, unsigned_abs}
use Rattle.std.proofs.lemmas.Int.{ints}
use Rattle.std.specs.Int.Signed.{pos-nat_abs}
use lib.Signed.{non_neg}
use Rattle.exact.specs.Rational.{ℚ, ratio, of_int, neg_ℚ, abs_ℚ, ◌≤ℚ◌}
use Rattle.exact.specs.Interval.{Coef, number_of, Interval, Inside}
use Rattle.exact.proofs.RationalRing.{reads}
use Rattle.exact.proofs.Order.{gap, known, le_by, le_trans, ◌⊗◌}
use Rattle.exact.proofs.Bounds.{abs_le, neg_le_neg}
use Rattle.exact.proofs.Integers.{of_int_le, le_of_int, ratio_is_product, floor_le, le_ceiling}
use Rattle.exact.proofs.Intervals.{coef_le_holds}
use Rattle.fixed_iv.specs.Ends.{in_units}
use Rattle.fixed_iv.specs.Extent.{Extent, size, width_of}
use Rattle.fixed_iv.specs.Holds.{Holds}
use Rattle.fixed_iv.specs.Reach.{Reach, IsKnown, units_below, units_above, in_fraction, lowest, highest, outer, outer_size, is_small, interval_neg}
use Rattle.fixed_iv.specs.declared.iv.Iv.{Iv}
use Rattle.fixed_iv.proofs.CommonLemmas.{units_le}
use Rattle.fixed_iv.proofs.EndLemmas.{at}
use Rattle.fixed_iv.proofs.RatioLemmas.{in_units-ratio}

-- ---- numbers as the checker computes with them
pub number_ratio : (c : Coef) → number_of c ≡ ratio c.num (suc c.under)
unfolding ratio
number_ratio c = refl

in_units-number : (c : Coef) → in_units (number_of c) ≡ ratio (c.num *ℤ pos 281474976710656) (suc c.under)
in_units-number c = ap in_units (number_ratio c) ∙ in_units-ratio c.num (suc c.under)

pub below_is : (c : Coef) → of_int (units_below c) ≤ℚ in_units (number_of c)
below_is c = subst (λ t. of_int (units_below c) ≤ℚ t) (sym (in_units-number c)) (floor_le (c.num *ℤ pos 281474976710656) c.under)

pub is_above : (c : Coef) → in_units (number_of c) ≤ℚ of_int (units_above c)
is_above c = subst (λ t. t ≤ℚ of_int (units_above c)) (sym (in_units-number c)) (le_ceiling (c.num *ℤ pos 281474976710656) c.under)

pub fraction_is_at : (z : ℤ) → number_of (in_fraction z) ≡ at z
unfolding at ratio
fraction_is_at z = ratio_is_product z 281474976710656

at_le_by : (z : ℤ) {x : ℚ} → of_int z ≤ℚ in_units x → at z ≤ℚ x
unfolding at
at_le_by z {x} h = le_by (of_int z ∷ x ∷ []) (gap h ⊗ known 1 281474976710656) (search reads depth 90) tt

le_at_by : (z : ℤ) {x : ℚ} → in_units x ≤ℚ of_int z → x ≤ℚ at z
unfolding at
le_at_by z {x} h = le_by (of_int z ∷ x ∷ []) (gap h ⊗ known 1 281474976710656) (search reads depth 90) tt

-- ---- widths and sizes
pub width_is : (v : Iv) → pos (width_of v) ≡ v.hi -ℤ v.lo
width_is v = pos-nat_abs (v.hi -ℤ v.lo) (sign v.lo v.hi v.ordered)
  where
    sign : (l h : ℤ) → l ≤ℤ h → T (non_neg (h -ℤ l))
    sign l h o = omega (arith, ints)

size_between : (l z h : ℤ) → l ≤ℤ z → z ≤ℤ h → unsigned_abs z ≤ max (unsigned_abs l) (unsigned_abs h)
size_between (pos l) (pos z) (pos h) p q = omega (arith, ints)
size_between (pos l) (pos z) (negsuc h) p q = omega (arith, ints)
size_between (pos l) (negsuc z) (pos h) p q = omega (arith, ints)
size_between (pos l) (negsuc z) (negsuc h) p q = omega (arith, ints)
size_between (negsuc l) (pos z) (pos h) p q = omega (arith, ints)
size_between (negsuc l) (pos z) (negsuc h) p q = omega (arith, ints)
size_between (negsuc l) (negsuc z) (pos h) p q = omega (arith, ints)
size_between (negsuc l) (negsuc z) (negsuc h) p q = omega (arith, ints)

-- ---- the bounds
pub ends_low : (e : Extent) (x : ℚ) (r : Reach) → IsKnown e x r.range r.spread → Holds e.ends x → lowest r ≤ℤ e.ends.lo
ends_low e x r k h =
    let p : units_below r.range.low ≤ℤ e.ends.hi = le_of_int (le_trans (le_trans (below_is r.range.low) (units_le k.inside.low)) (h.high k.measured.bounded.high)) in
    below (units_below r.range.low) e.ends.lo e.ends.hi (width_of e.ends) e.spread r.spread p (width_is e.ends) k.measured.width k.narrow
  where
    below : (d l h : ℤ) (w m n : ℕ) → d ≤ℤ h → pos w ≡ h -ℤ l → w ≤ m → m ≤ n → (d -ℤ pos n) ≤ℤ l
    below d l h w m n p e q r = omega (arith, ints)

pub ends_high : (e : Extent) (x : ℚ) (r : Reach) → IsKnown e x r.range r.spread → Holds e.ends x → e.ends.hi ≤ℤ highest r
ends_high e x r k h =
    let p : e.ends.lo ≤ℤ units_above r.range.high = le_of_int (le_trans (h.low k.measured.bounded.low) (le_trans (units_le k.inside.high) (is_above r.range.high))) in
    above (units_above r.range.high) e.ends.lo e.ends.hi (width_of e.ends) e.spread r.spread p (width_is e.ends) k.measured.width k.narrow
  where
    above : (d l h : ℤ) (w m n : ℕ) → l ≤ℤ d → pos w ≡ h -ℤ l → w ≤ m → m ≤ n → h ≤ℤ (d +ℤ pos n)
    above d l h w m n p e q r = omega (arith, ints)

pub size_known : (e : Extent) (x : ℚ) (r : Reach) → IsKnown e x r.range r.spread → Holds e.ends x → size e.ends ≤ outer_size r
size_known e x r k h =
    let l = ends_low e x r k h in
    let g = ends_high e x r k h in
    let p = size_between (lowest r) e.ends.lo (highest r) l (le_trans_ℤ e.ends.lo e.ends.hi (highest r) e.ends.ordered g) in
    let q = size_between (lowest r) e.ends.hi (highest r) (le_trans_ℤ (lowest r) e.ends.lo e.ends.hi l e.ends.ordered) g in
    larger (unsigned_abs e.ends.lo) (unsigned_abs e.ends.hi) (outer_size r) p q
  where
    le_trans_ℤ : (a b c : ℤ) → a ≤ℤ b → b ≤ℤ c → a ≤ℤ c
    le_trans_ℤ a b c p q = omega (arith, ints)

    larger : (a b c : ℕ) → a ≤ c → b ≤ c → max a b ≤ c
    larger a b c p q = omega arith

-- a number within the bounds lies in the outer range
pub in_outer : (e : Extent) (x : ℚ) (r : Reach) → IsKnown e x r.range r.spread → Holds e.ends x → (z : ℚ) → Holds e.ends z → Inside (outer r) z
in_outer e x r k h z j =
    record {
      low = subst (λ t. t ≤ℚ z) (sym (fraction_is_at (lowest r))) (at_le_by (lowest r) (le_trans (of_int_le (ends_low e x r k h)) (j.low k.measured.bounded.low)));
      high = subst (λ t. z ≤ℚ t) (sym (fraction_is_at (highest r))) (le_at_by (highest r) (le_trans (j.high k.measured.bounded.high) (of_int_le (ends_high e x r k h))));
    }

-- ---- tests that passed
pub both : (a b : Bool) → T (a && b) → T a × T b
both true true h = (tt, tt)
both true false h = absurd h
both false b h = absurd h

pub small_holds : (i : Interval) (z : ℚ) → T (is_small i) → Inside i z → abs_ℚ z ≤ℚ ratio (pos 32000) 1
unfolding ratio neg_ℚ
small_holds i z t h =
    let b = both _ _ t in
    abs_le (le_trans (coef_le_holds (record { num = negsuc 31999; under = 0 }) i.low b.0) h.low)
    (le_trans h.high (coef_le_holds i.high (record { num = pos 32000; under = 0 }) b.1))

pub interval_neg_holds : (i : Interval) (x : ℚ) → Inside i x → Inside (interval_neg i) (neg_ℚ x)
unfolding neg_ℚ
interval_neg_holds i x h = record { low = neg_le_neg h.high; high = neg_le_neg h.low }
