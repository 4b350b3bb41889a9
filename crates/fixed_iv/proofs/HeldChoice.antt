-- Lines between given intervals, and the greater of a value and a number of a given interval.
use Rattle.std.proofs.Common.{◌≡◌, arith, true, false, [], ◌∷◌, ◌⊎◌, inl, inr, ⊎_elim, ℕ, ◌≤◌, max, T, Bool, ℤ, pos, negsuc, ◌-ℤ◌, ◌≤ℤ◌, unsigned_abs, le_trans as nat_trans}
use Rattle.std.proofs.lemmas.Int.{ints}
use Rattle.std.specs.Int.{int_max, int_min}
use Rattle.exact.specs.Rational.{ℚ, ratio, abs_ℚ, ◌≤ℚ◌}
use Rattle.exact.specs.Interval.{Coef, number_of, Interval, Inside, coef_le, coef_max, coef_min}
use Rattle.exact.proofs.RationalRing.{reads}
use Rattle.exact.proofs.Order.{gap, known, le_by, le_trans, ◌⊕◌, ◌⊗◌}
use Rattle.exact.proofs.Bounds.{abs_le, le_of_abs}
use Rattle.exact.proofs.Intervals.{max_holds, min_holds}
use Rattle.fixed_iv.specs.Common.{IsGreater, IsGreaterOf}
use Rattle.fixed_iv.specs.Extent.{AreSmall, Extent, extent_of, width_of}
use Rattle.fixed_iv.specs.Holds.{Holds}
use Rattle.fixed_iv.specs.Narrow.{IsNarrowGreater, IsNarrowLine}
use Rattle.fixed_iv.specs.Place.{Place, on_line}
use Rattle.fixed_iv.specs.Reach.{Reach, IsGiven, IsHeld, IsKnown, greater_of, highest, is_small, lined, lowest, outer, reach_of}
use Rattle.fixed_iv.specs.declared.iv.Iv.{Iv}
use Rattle.fixed_iv.proofs.Held.{Contained, by_rule}
use Rattle.fixed_iv.proofs.HeldGiven.{known_given, small_given}
use Rattle.fixed_iv.proofs.MinMaxLemmas.{greatest_max, least_min}
use Rattle.fixed_iv.proofs.NarrowLemmas.{at_most_abs}
use Rattle.fixed_iv.proofs.OuterLemmas.{both, ends_high, ends_low, in_outer, small_holds}

-- ---- a line
above_line : (h : Place) {m x y : ℚ} → m ≤ℚ x → m ≤ℚ y → m ≤ℚ on_line h x y
above_line h {m} {x} {y} f g = le_by (m ∷ x ∷ y ∷ h.at ∷ []) (known 1 2 ⊗ (gap h.high ⊗ gap f ⊕ gap h.low ⊗ gap g)) (search reads depth 90) tt

below_line : (h : Place) {m x y : ℚ} → x ≤ℚ m → y ≤ℚ m → on_line h x y ≤ℚ m
below_line h {m} {x} {y} f g = le_by (m ∷ x ∷ y ∷ h.at ∷ []) (known 1 2 ⊗ (gap h.high ⊗ gap f ⊕ gap h.low ⊗ gap g)) (search reads depth 90) tt

on_line_holds : (h : Place) (i j : Interval) (x y : ℚ) → Inside i x → Inside j y → Inside (record { low = coef_min i.low j.low; high = coef_max i.high j.high }) (on_line h x y)
on_line_holds h i j x y p q = record {
  low = above_line h (le_trans (min_holds i.low j.low).0 p.low) (le_trans (min_holds i.low j.low).1 q.low);
  high = below_line h (le_trans p.high (max_holds i.high j.high).0) (le_trans q.high (max_holds i.high j.high).1);
}

small_line : (h : Place) (x y : ℚ) → abs_ℚ x ≤ℚ ratio (pos 32000) 1 → abs_ℚ y ≤ℚ ratio (pos 32000) 1 → abs_ℚ (on_line h x y) ≤ℚ ratio (pos 32000) 1
small_line h x y f g = let a = le_of_abs f in let b = le_of_abs g in abs_le (above_line h a.0 b.0) (below_line h a.1 b.1)

-- the hull grows with the ends
hull_grows : (al ah bl bh L H M K : ℤ) → L ≤ℤ al → ah ≤ℤ H → M ≤ℤ bl → bh ≤ℤ K → al ≤ℤ ah → unsigned_abs (int_max ah bh -ℤ int_min al bl) ≤ unsigned_abs (int_max H K -ℤ int_min L M)
hull_grows al ah bl bh L H M K p q r s o =
    let g = greatest_max ah bh in
    let l = least_min al bl in
    let low = under (least_min L M).left (least_min L M).right l.is in
    let high = over (greatest_max H K).left (greatest_max H K).right g.is in
    at_most_abs _ _ (wider (unsigned_abs (int_max ah bh -ℤ int_min al bl)) (abs_is (int_max ah bh -ℤ int_min al bl) (apart g.left l.left)) low high)
  where
    abs_is : (z : ℤ) → pos 0 ≤ℤ z → pos (unsigned_abs z) ≤ℤ z
    abs_is (pos z) h = omega (arith, ints)
    abs_is (negsuc z) h = absurd (omega (arith, ints, h))

    apart : {low high : ℤ} → ah ≤ℤ high → low ≤ℤ al → pos 0 ≤ℤ (high -ℤ low)
    apart g l = omega (arith, ints, g, l, o)

    under : {low least : ℤ} → low ≤ℤ L → low ≤ℤ M → (least ≡ al) ⊎ (least ≡ bl) → low ≤ℤ least
    under f g (inl e) = omega (arith, ints, f, e, p)
    under f g (inr e) = omega (arith, ints, g, e, r)

    over : {high most : ℤ} → H ≤ℤ high → K ≤ℤ high → (most ≡ ah) ⊎ (most ≡ bh) → most ≤ℤ high
    over f g (inl e) = omega (arith, ints, f, e, q)
    over f g (inr e) = omega (arith, ints, g, e, s)

    wider : {low high least most : ℤ} (n : ℕ) → pos n ≤ℤ (most -ℤ least) → low ≤ℤ least → most ≤ℤ high → pos n ≤ℤ (high -ℤ low)
    wider n h f g = omega (arith, ints, h, f, g)

known_line : {a b : Iv} {x y : ℚ} {i j : Interval} {n m : ℕ} (r : Extent) (h : Place) → IsNarrowLine a b r → IsGiven a x i n → IsGiven b y j m →
    T (is_small (outer (reach_of i n))) → T (is_small (outer (reach_of j m))) →
    IsKnown r (on_line h x y) (record { low = coef_min i.low j.low; high = coef_max i.high j.high })
    (unsigned_abs (int_max (highest (reach_of i n)) (highest (reach_of j m)) -ℤ int_min (lowest (reach_of i n)) (lowest (reach_of j m))))
known_line {a} {b} {x} {y} {i} {j} {n} {m} r h rule p q s t =
    by_rule r _ _ _ rule (p.bounded, q.bounded)
    (λ z w. rw w.is (small_line w.place w.start w.end (small_holds _ _ s (small_given p w.start w.of_start)) (small_holds _ _ t (small_given q w.end w.of_end))))
    (on_line_holds h i j x y p.inside q.inside)
    (λ f. nat_trans f (hull_grows a.lo a.hi b.lo b.hi _ _ _ _
    (ends_low (extent_of a) x (reach_of i n) (known_given p) p.holds) (ends_high (extent_of a) x (reach_of i n) (known_given p) p.holds)
    (ends_low (extent_of b) y (reach_of j m) (known_given q) q.holds) (ends_high (extent_of b) y (reach_of j m) (known_given q) q.holds) a.ordered))

pub line_held : {A : Type 0} {C : A → Place → ℚ → Type 0} {E : A → Extent} {told : Bool} → {a b : Iv} {r : A} {h : Place} {x y : ℚ} {i j : Interval} {n m : ℕ} →
    ((h : Place) (x y : ℚ) → Holds a x → Holds b y → C r h (on_line h x y)) → (T told → IsNarrowLine a b (E r)) →
    IsGiven a x i n → IsGiven b y j m → IsHeld C E told r h (on_line h x y) (lined (reach_of i n) (reach_of j m))
unfolding lined
line_held {E = E} {r = r} {h} {x} {y} covers narrow p q =
    record { covers = covers h x y p.holds q.holds; known = λ told t. let t0 = both _ _ t in known_line (E r) h (narrow told) p q t0.0 t0.1 }

-- ---- the greater of two numbers
choice : (P : Coef → Type 0) (t : Bool) (a b : Coef) → P a → P b → P (elim t [ true ↦ b | false ↦ a ])
choice P true a b h k = k
choice P false a b h k = h

greater_holds : (i j : Interval) (x m z : ℚ) → IsGreater x m z → Inside i x → Inside j m → Inside (record { low = coef_max i.low j.low; high = coef_max i.high j.high }) z
greater_holds i j x m z g p q = record {
  low = choice (λ c. number_of c ≤ℚ z) (coef_le i.low j.low) i.low j.low (le_trans p.low g.not_below_left) (le_trans q.low g.not_below_right);
  high = ⊎_elim (λ e. rw e (le_trans p.high (max_holds i.high j.high).0)) (λ e. rw e (le_trans q.high (max_holds i.high j.high).1)) g.is;
}

known_greater : {floor : Iv} {m : ℚ} {j : Interval} {w : ℕ} (e r : Extent) (x z : ℚ) (p : Reach) → IsNarrowGreater e floor r → Holds e.ends x →
    IsKnown e x p.range p.spread → IsGiven floor m j w → IsGreater x m z → T (is_small (outer p)) → T (is_small (outer (reach_of j w))) →
    IsKnown r z (record { low = coef_max p.range.low j.low; high = coef_max p.range.high j.high }) (max p.spread w)
known_greater {floor} {m} {j} {w} e r x z p rule hx k q g s t =
    by_rule r _ _ _ rule (k.measured, q.bounded) small (greater_holds p.range j x m z g k.inside q.inside) (limit r.spread e.spread (width_of floor) p.spread w k.narrow q.within)
  where
    small : AreSmall (IsGreaterOf e.ends floor)
    small u v = ⊎_elim
        (λ f. rw f (small_holds (outer p) v.left s (in_outer e x p k hx v.left v.of_left)))
        (λ f. rw f (small_holds (outer (reach_of j w)) v.right t (small_given q v.right v.of_right))) v.is.is

    limit : (n a b A B : ℕ) → a ≤ A → b ≤ B → n ≤ max a b → n ≤ max A B
    limit n a b A B f g h = omega arith

pub max_held : {A : Type 0} {C : A → Place → ℚ → Type 0} {E : A → Extent} {told : Bool} → Contained C E → {a r : A} {floor : Iv} {h : Place} {x m z : ℚ} {p : Reach} {j : Interval} {w : ℕ} →
    ((h : Place) (x m z : ℚ) → C a h x → Holds floor m → IsGreater x m z → C r h z) → (T told → IsNarrowGreater (E a) floor (E r)) →
    IsHeld C E told a h x p → IsGiven floor m j w → IsGreater x m z → IsHeld C E told r h z (greater_of p (reach_of j w))
unfolding greater_of
max_held {E = E} law {a} {r} {floor} {h} {x} {m} {z} {p} covers narrow k q g =
    record {
      covers = covers h x m z k.covers q.holds g;
      known = λ told t. let t0 = both _ _ t in let t1 = both _ _ t0.0 in
          known_greater (E a) (E r) x z p (narrow told) (law a h x k.covers) (k.known told t1.0) q g t1.1 t0.1;
    }
