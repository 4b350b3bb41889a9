-- Ticks and places of a cell as times, and a place of a cell as a place on its line.
use Rattle.std.proofs.Common.{◌≡◌, arith, [], ◌∷◌, sym, subst, ap, ◌∙◌, ◌⊎◌, inl, inr, T, Bool, ℕ, ◌+◌, ◌*◌, ◌/◌, ◌<◌, ◌≤◌, ℤ, pos, ◌-ℤ◌, ◌*ℤ◌, ◌≤ℤ◌, unsigned_abs}
use Rattle.std.proofs.lemmas.Int.{ints}
use Rattle.std.specs.Int.{int_max, int_min}
use Rattle.std.specs.Int.Signed.{pos-nat_abs}
use lib.Signed.{non_neg}
use Rattle.exact.proofs.Order.{le_refl}
use Rattle.exact.specs.Interval.{between}
use Rattle.exact.proofs.Intervals.{inside}
use Rattle.exact.proofs.Integers.{le_of_int}
use Rattle.elements.specs.Window.{most_ticks}
use Rattle.fixed_iv.specs.Extent.{Extent}
use Rattle.fixed_iv.specs.Narrow.{IsNarrowLine}
use Rattle.fixed_iv.specs.Reach.{IsGiven, lined}
use Rattle.fixed_iv.proofs.Held.{Contained}
use Rattle.fixed_iv.proofs.HeldChoice.{line_held}
use Rattle.fixed_iv.proofs.MinMaxLemmas.{greatest_max, least_min}
use Rattle.fixed_iv.proofs.OuterLemmas.{width_is}
use Rattle.earth_frame.specs.Spread.{IsSpreadWithin, IsWithinOne}
use Rattle.exact.specs.Rational.{ℚ, of_int, ratio, inverse, ◌+ℚ◌, ◌-ℚ◌, ◌*ℚ◌, neg_ℚ, one_ℚ, ◌≤ℚ◌}
use Rattle.exact.proofs.RationalRing.{ring, reads}
use Rattle.exact.proofs.Order.{NonNeg, gap, known, le_by, le_of_gap, le_trans, same_sign, ◌⊕◌, ◌⊗◌}
use Rattle.exact.proofs.Strict.{Positive, mul_inverse, not_zero, positive_inverse, positive_known, positive_sum, positive_weak}
use Rattle.exact.proofs.Integers.{of_int_add, of_int_is, of_int_le, of_int_mul}
use Rattle.fixed_iv.specs.Ends.{in_units}
use Rattle.fixed_iv.specs.Holds.{Holds}
use Rattle.fixed_iv.specs.Place.{Place, on_line}
use Rattle.fixed_iv.specs.declared.iv.Iv.{Iv}
use Rattle.earth_frame.specs.Over.{instant_after}
use Rattle.sgp4_model.specs.Time.{IsWithin, instant_of_nanos, instant_of_place}
use Rattle.orbit_sight.specs.Cell.{IsTickTime, time_of_place}

-- ---- a tick
in_parts : (tick : ℕ) → in_units (time_of_place (of_int (pos tick))) *ℚ ratio (pos 9375) 1 ≡ of_int (pos (tick * 268435456))
in_parts tick = ring (of_int (pos tick) ∷ []) {y = of_int (pos tick) *ℚ ratio (pos 268435456) 1} (search reads depth 90) tt ∙ sym (of_int_mul (pos tick) (pos 268435456) ∙ ap (λ t. of_int (pos tick) *ℚ t) (of_int_is (pos 268435456)))

below_part : (tick : ℕ) (z : ℤ) → (z *ℤ pos 9375) ≤ℤ pos (tick * 268435456) → of_int z ≤ℚ in_units (time_of_place (of_int (pos tick)))
below_part tick z h =
    let k : of_int z *ℚ ratio (pos 9375) 1 ≤ℚ in_units (time_of_place (of_int (pos tick))) *ℚ ratio (pos 9375) 1 = rw (in_parts tick, ← of_int_is (pos 9375), ← of_int_mul z (pos 9375)) (of_int_le h) in
    le_by (of_int z ∷ of_int (pos tick) ∷ []) (known 1 9375 ⊗ gap k) (search reads depth 90) tt

above_part : (tick : ℕ) (z : ℤ) → pos (tick * 268435456) ≤ℤ (z *ℤ pos 9375) → in_units (time_of_place (of_int (pos tick))) ≤ℚ of_int z
above_part tick z h =
    let k : in_units (time_of_place (of_int (pos tick))) *ℚ ratio (pos 9375) 1 ≤ℚ of_int z *ℚ ratio (pos 9375) 1 = rw (in_parts tick, ← of_int_is (pos 9375), ← of_int_mul z (pos 9375)) (of_int_le h) in
    le_by (of_int z ∷ of_int (pos tick) ∷ []) (known 1 9375 ⊗ gap k) (search reads depth 90) tt

pub tick_time_is : (tick : ℕ) {v : Iv} → v.lo ≡ pos (tick * 268435456 / 9375) → v.hi ≡ pos ((tick * 268435456 + 9374) / 9375) → IsTickTime tick v
tick_time_is tick {v} l h = record {
  holds = record {
    low = λ _. below_part tick v.lo (omega (arith, ints, l));
    high = λ _. above_part tick v.hi (omega (arith, ints, h));
  };
  low = omega (arith, ints, l);
  high = omega (arith, ints, h);
  sign = omega (arith, ints, l);
}

-- ---- a place of a cell is a place of the line between its ends
pub record IsOnCell (f g p scale : ℚ) : Type 0 where
  pub at : Place
  pub is : on_line at (f *ℚ scale) (g *ℚ scale) ≡ p *ℚ scale

-- over is the inverse of the cell's length
pub by_inverse : (f g p scale over : ℚ) → (g -ℚ f) *ℚ over ≡ one_ℚ → NonNeg over → f ≤ℚ p → p ≤ℚ g → IsOnCell f g p scale
by_inverse f g p scale over whole positive l h = record { at = record { at = (p +ℚ p -ℚ f -ℚ g) *ℚ over; low = low; high = high }; is = is }
  where
    low : neg_ℚ one_ℚ ≤ℚ (p +ℚ p -ℚ f -ℚ g) *ℚ over
    low =
        le_of_gap (same_sign
        (ring (f ∷ g ∷ p ∷ over ∷ []) {y = (p +ℚ p -ℚ f -ℚ g) *ℚ over +ℚ (g -ℚ f) *ℚ over} (search reads depth 90) tt
        ∙ ap (λ t. (p +ℚ p -ℚ f -ℚ g) *ℚ over +ℚ t) whole
        ∙ ring (f ∷ g ∷ p ∷ over ∷ []) {y = (p +ℚ p -ℚ f -ℚ g) *ℚ over -ℚ neg_ℚ one_ℚ} (search reads depth 90) tt)
        (known 2 1 ⊗ gap l ⊗ positive))

    high : (p +ℚ p -ℚ f -ℚ g) *ℚ over ≤ℚ one_ℚ
    high =
        le_of_gap (same_sign
        (ring (f ∷ g ∷ p ∷ over ∷ []) {y = (g -ℚ f) *ℚ over -ℚ (p +ℚ p -ℚ f -ℚ g) *ℚ over} (search reads depth 90) tt
        ∙ ap (λ t. t -ℚ (p +ℚ p -ℚ f -ℚ g) *ℚ over) whole)
        (known 2 1 ⊗ gap h ⊗ positive))

    is : on_line (record { at = (p +ℚ p -ℚ f -ℚ g) *ℚ over; low = low; high = high }) (f *ℚ scale) (g *ℚ scale) ≡ p *ℚ scale
    is =
        ring (f ∷ g ∷ p ∷ over ∷ scale ∷ []) {y = ratio (pos 1) 2 *ℚ scale *ℚ (f +ℚ g +ℚ (p +ℚ p -ℚ f -ℚ g) *ℚ ((g -ℚ f) *ℚ over))} (search reads depth 90) tt
        ∙ ap (λ t. ratio (pos 1) 2 *ℚ scale *ℚ (f +ℚ g +ℚ (p +ℚ p -ℚ f -ℚ g) *ℚ t)) whole
        ∙ ring (f ∷ g ∷ p ∷ scale ∷ []) (search reads depth 90) tt

on_cell : (f g p scale : ℚ) → Positive (g -ℚ f) → f ≤ℚ p → p ≤ℚ g → IsOnCell f g p scale
on_cell f g p scale s l h = by_inverse f g p scale (inverse (g -ℚ f)) (mul_inverse (g -ℚ f) (not_zero s)) (positive_weak (positive_inverse s)) l h

-- a later tick is later
later : (m n : ℕ) → m < n → Positive (of_int (pos n) -ℚ of_int (pos m))
later m n h =
    let k : of_int (pos m) +ℚ ratio (pos 1) 1 ≤ℚ of_int (pos n) = rw (← of_int_is (pos 1), ← of_int_add (pos m) (pos 1)) (of_int_le (omega (arith, ints, h))) in
    positive_by_gap (of_int (pos m)) (of_int (pos n)) k
  where
    positive_by_gap : (x y : ℚ) → x +ℚ ratio (pos 1) 1 ≤ℚ y → Positive (y -ℚ x)
    positive_by_gap x y k = subst Positive (ring (x ∷ y ∷ []) (search reads depth 90) tt) (positive_sum (positive_known 0 1) (gap k))

pub on_ticks : (m n : ℕ) (p : ℚ) → m < n → IsWithin m n p → IsOnCell (of_int (pos m)) (of_int (pos n)) p (ratio (pos 1) 9830400000)
on_ticks m n p h w = on_cell (of_int (pos m)) (of_int (pos n)) p (ratio (pos 1) 9830400000) (later m n h) w.low w.high

-- ---- the instant of a place
pub instant_is : (start : ℤ) (p : ℚ) → instant_of_place start p ≡ instant_after start (time_of_place p)
instant_is start p = ring (instant_of_nanos start ∷ p ∷ []) (search reads depth 90) tt

-- ---- what a line between two ticks tells
-- bounds between -1 and 1, and a spread of the cell's length and at most two units more
pub record IsCellExtent (m n : ℕ) (e : Extent) : Type 0 where
  pub within : IsWithinOne e
  pub spread : e.spread * 9375 + m * 268435456 ≤ n * 268435456 + 18748

tick_given : (tick : ℕ) {v : Iv} → tick ≤ most_ticks → IsTickTime tick v → IsGiven v (time_of_place (of_int (pos tick))) (between (pos 0) 1 (pos 1) 1) 1
tick_given tick {v} h t = record {
  holds = t.holds;
  bounded = record { low = omega (arith, ints, t.sign); high = omega (arith, ints, t.high, h) };
  within = omega (arith, ints, t.low, t.high, width_is v);
  inside = inside (pos 0) 1 (pos 1) 1
      (le_by (of_int (pos tick) ∷ []) (gap from_0 ⊗ known 1 9830400000) (search reads depth 90) tt)
      (le_by (of_int (pos tick) ∷ []) (gap to_most ⊗ known 1 9830400000 ⊕ known 1190400000 9830400000) (search reads depth 90) tt);
}
  where
    from_0 : ratio (pos 0) 1 ≤ℚ of_int (pos tick)
    from_0 = rw (← of_int_is (pos 0)) (of_int_le (omega (arith, ints)))

    to_most : of_int (pos tick) ≤ℚ ratio (pos 8640000000) 1
    to_most = rw (← of_int_is (pos 8640000000)) (of_int_le (omega (arith, ints, h)))

pub at_start : Place
at_start = record { at = neg_ℚ one_ℚ; low = le_refl _; high = le_by [] (known 2 1) (search reads depth 90) tt }

at_end : Place
at_end = record { at = one_ℚ; low = le_by [] (known 2 1) (search reads depth 90) tt; high = le_refl _ }

pub line_starts : (x y : ℚ) → on_line at_start x y ≡ x
unfolding at_start
line_starts x y = ring (x ∷ y ∷ []) (search reads depth 90) tt

line_ends : (x y : ℚ) → on_line at_end x y ≡ y
unfolding at_end
line_ends x y = ring (x ∷ y ∷ []) (search reads depth 90) tt

-- the hull of two ticks' intervals
hull_is : (al ah bl bh : ℤ) (n : ℕ) → al ≤ℤ bl → ah ≤ℤ bh → al ≤ℤ ah → n ≤ unsigned_abs (int_max ah bh -ℤ int_min al bl) → pos n ≤ℤ (bh -ℤ al)
hull_is al ah bl bh n l h p k = within (upper (greatest_max ah bh).is) (lower (least_min al bl).is) (apart (greatest_max ah bh).left (least_min al bl).left) k
  where
    upper : {most : ℤ} → (most ≡ ah) ⊎ (most ≡ bh) → most ≤ℤ bh
    upper (inl e) = omega (arith, ints, e, h)
    upper (inr e) = omega (arith, ints, e)

    lower : {least : ℤ} → (least ≡ al) ⊎ (least ≡ bl) → al ≤ℤ least
    lower (inl e) = omega (arith, ints, e)
    lower (inr e) = omega (arith, ints, e, l)

    apart : {most least : ℤ} → ah ≤ℤ most → least ≤ℤ al → T (non_neg (most -ℤ least))
    apart f g = omega (arith, ints, f, g, p)

    within : {most least : ℤ} → most ≤ℤ bh → al ≤ℤ least → T (non_neg (most -ℤ least)) → n ≤ unsigned_abs (most -ℤ least) → pos n ≤ℤ (bh -ℤ al)
    within {most} {least} f g s k = let e = pos-nat_abs (most -ℤ least) s in omega (arith, ints, e, f, g, k)

pub cell_extent : {A : Type 0} {C : A → Place → ℚ → Type 0} (E : A → Extent) (told : Bool) {a b : Iv} {r : A} (m n : ℕ) → Contained C E →
    ((h : Place) (x y : ℚ) → Holds a x → Holds b y → C r h (on_line h x y)) → (T told → IsNarrowLine a b (E r)) → T told →
    m < n → n ≤ most_ticks → IsTickTime m a → IsTickTime n b → IsCellExtent m n (E r)
unfolding lined
cell_extent {A} {C} E told {a} {b} {r} m n law covers narrow t o h s u =
    let p = tick_given m (omega arith) s in
    let q = tick_given n h u in
    let measured = ((line_held {C = C} {E = E} {told = told} {r = r} {h = at_start} covers narrow p q).known t tt).measured in
    let first : Holds (E r).ends (time_of_place (of_int (pos m))) = subst (Holds (E r).ends) (line_starts _ _) (law r at_start _ (covers at_start _ _ s.holds u.holds)) in
    let last : Holds (E r).ends (time_of_place (of_int (pos n))) = subst (Holds (E r).ends) (line_ends _ _) (law r at_end _ (covers at_end _ _ s.holds u.holds)) in
    let low = le_of_int (le_trans (first.low measured.bounded.low) (s.holds.high p.bounded.high)) in
    let high = le_of_int (le_trans (u.holds.low q.bounded.low) (last.high measured.bounded.high)) in
    let least : a.lo ≤ℤ b.lo = omega (arith, ints, s.low, s.high, u.low, a.ordered, o) in
    let most : a.hi ≤ℤ b.hi = omega (arith, ints, s.high, u.low, b.ordered, o) in
    let wide = hull_is a.lo a.hi b.lo b.hi (E r).spread least most a.ordered ((narrow t).spread (p.bounded, q.bounded) measured.bounded) in
    record {
      within = record {
        measured = measured;
        unit = record { low = omega (arith, ints, high, wide, s.sign, u.high, u.low, h, width_is (E r).ends, measured.width); high = omega (arith, ints, low, wide, s.high, s.low, u.high, h, width_is (E r).ends, measured.width) };
        most = omega (arith, ints, wide, s.sign, u.high, h);
      };
      spread = omega (arith, ints, wide, s.low, u.high);
    }

pub least_spread : {m n : ℕ} {e : Extent} → n ≡ m + 1 → IsCellExtent m n e → IsSpreadWithin 28640 e
least_spread {m} {n} {e} is h = record { measured = h.within.measured; spread = omega (arith, is, h.spread) }

pub start_within : {m n : ℕ} → m < n → IsWithin m n (of_int (pos m))
start_within {m} {n} h = record { low = le_refl _; high = of_int_le (omega (arith, ints, h)) }

-- the time along the cell
pub line_of_time : (h : Place) (x y : ℚ) → on_line h (time_of_place x) (time_of_place y) ≡ time_of_place (on_line h x y)
line_of_time h x y = ring (h.at ∷ x ∷ y ∷ []) (search reads depth 90) tt
