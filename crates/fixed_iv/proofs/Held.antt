-- One lemma an operation: what numerals say of its arguments, they say of its result.
use Rattle.std.proofs.Common.{◌≡◌, arith, ℕ, ◌+◌, ◌*◌, ◌/◌, ◌^◌, ◌≤◌, ⊎_elim, [], ◌∷◌, T, Bool, sym, subst, pos, negsuc, ◌-ℤ◌, le_trans as nat_trans, le_refl}
use Rattle.std.proofs.Math.Nat.{mul-le-mul}
use Rattle.std.proofs.lemmas.Int.{ints}
use lib.Signed.{non_neg}
use Rattle.algebra.proofs.Polynomials.{passed}
use Rattle.exact.specs.Rational.{ℚ, ◌+ℚ◌, ◌-ℚ◌, ◌*ℚ◌, neg_ℚ, zero_ℚ, one_ℚ, ratio, ◌≤ℚ◌}
use Rattle.exact.proofs.RationalRing.{reads}
use Rattle.exact.proofs.Order.{le_trans, le_by, gap, known, ◌⊕◌}
use Rattle.exact.specs.Interval.{Interval, Inside, coef_le, interval_add, interval_mul}
use Rattle.exact.proofs.Intervals.{coef_le_holds, interval_add_holds, interval_mul_holds}
use Rattle.sgp4_model.specs.Angle.{IsNear, IsPi, IsSinCos, part}
use Rattle.sgp4_model.proofs.Pythagoras.{sine_pairs_are_bounded}
use Rattle.fixed_iv.specs.Extent.{Extent, AreSmall, IsNarrow, size, width_of}
use Rattle.fixed_iv.specs.Holds.{Holds, IsBounded}
use Rattle.fixed_iv.specs.Narrow.{IsNarrowConstant, IsNarrowDifference, IsNarrowNegative, IsNarrowProduct, IsNarrowSum, IsNarrowTurn, IsTurnOf}
use Rattle.fixed_iv.specs.Place.{Place}
use Rattle.fixed_iv.specs.Reach.{Reach, IsKnown, IsHeld, outer, outer_size, is_small, is_within, Exceeds, Reaches, claimed, nothing, given, IsGiven, reach_of, grain, interval_neg, ◌+ᴿ◌, ◌-ᴿ◌, ◌*ᴿ◌, negative, turned, turn_range}
use Rattle.fixed_iv.specs.Results.{IsNegativeOf, IsResultOf}
use Rattle.fixed_iv.specs.declared.iv.Iv.{Iv}
use Rattle.fixed_iv.proofs.OuterLemmas.{both, in_outer, interval_neg_holds, size_known, small_holds}

-- each covered value lies within the bounds: the law `contained` of the trait
abbrev pub Contained : {A : Type 0} → (A → Place → ℚ → Type 0) → (A → Extent) → Type 0
Contained {A} meaning extent = (a : A) (h : Place) (x : ℚ) → meaning a h x → Holds (extent a).ends x

-- the known facts of a result, from the rule of its operation
pub by_rule : {arguments : Type 0} {exact : ℚ → Type 0} {limit : ℕ → Type 0} (e : Extent) (x : ℚ) (i : Interval) (n : ℕ) →
    IsNarrow arguments exact limit e → arguments → AreSmall exact → Inside i x → (limit e.spread → e.spread ≤ n) → IsKnown e x i n
by_rule e x i n rule a s h f =
    let b = rule.bounded a s in
    record { inside = h; measured = rule.measured a b; narrow = f (rule.spread a b) }

sum_limit : (n a b A B : ℕ) → a ≤ A → b ≤ B → n ≤ a + b → n ≤ A + B
sum_limit n a b A B k l h = omega arith

-- ---- product
known_times : (e f r : Extent) (x y : ℚ) (p q : Reach) → IsNarrowProduct e f r → Holds e.ends x → Holds f.ends y →
    IsKnown e x p.range p.spread → IsKnown f y q.range q.spread → T (is_small (interval_mul grain (outer p) (outer q))) →
    IsKnown r (x *ℚ y) (interval_mul grain p.range q.range) ((outer_size p * q.spread + outer_size q * p.spread) / 281474976710656 + 2)
known_times e f r x y p q rule hx hy k l t =
    by_rule r _ _ _ rule (k.measured, l.measured) small
    (interval_mul_holds grain p.range q.range x y k.inside l.inside)
    (limit r.spread (size e.ends) (size f.ends) f.spread e.spread (outer_size p) (outer_size q) q.spread p.spread (size_known e x p k hx) (size_known f y q l hy) l.narrow k.narrow)
  where
    small : AreSmall (IsResultOf ◌*ℚ◌ e.ends f.ends)
    small z w = rw w.is (small_holds (interval_mul grain (outer p) (outer q)) (w.left *ℚ w.right) t
        (interval_mul_holds grain (outer p) (outer q) w.left w.right (in_outer e x p k hx w.left w.of_left) (in_outer f y q l hy w.right w.of_right)))

    limit : (n s t b a S U B A : ℕ) → s ≤ S → t ≤ U → b ≤ B → a ≤ A → n * 2 ^ 48 ≤ s * b + t * a + 2 * 2 ^ 48 → n ≤ (S * B + U * A) / 281474976710656 + 2
    limit n s t b a S U B A h1 h2 h3 h4 h =
        divided n (s * b) (t * a) (S * B) (U * A) (mul-le-mul h1 h3) (mul-le-mul h2 h4) h
      where
        divided : (n p q P Q : ℕ) → p ≤ P → q ≤ Q → n * 2 ^ 48 ≤ p + q + 2 * 2 ^ 48 → n ≤ (P + Q) / 281474976710656 + 2
        divided n p q P Q k l h = omega arith

pub times_held : {A : Type 0} {C : A → Place → ℚ → Type 0} {E : A → Extent} {told : Bool} → Contained C E → {a b r : A} {h : Place} {x y : ℚ} {p q : Reach} →
    ((h : Place) (x y : ℚ) → C a h x → C b h y → C r h (x *ℚ y)) → (T told → IsNarrowProduct (E a) (E b) (E r)) →
    IsHeld C E told a h x p → IsHeld C E told b h y q → IsHeld C E told r h (x *ℚ y) (p *ᴿ q)
unfolding ◌*ᴿ◌
times_held {E = E} law {a} {b} {r} {h} {x} {y} {p} {q} covers narrow k l =
    record {
      covers = covers h x y k.covers l.covers;
      known = λ told t. let t0 = both _ _ t in let t1 = both _ _ t0.0 in
          known_times (E a) (E b) (E r) x y p q (narrow told) (law a h x k.covers) (law b h y l.covers) (k.known told t1.0) (l.known told t1.1) t0.1;
    }

-- ---- sum
known_plus : (e f r : Extent) (x y : ℚ) (p q : Reach) → IsNarrowSum e f r → Holds e.ends x → Holds f.ends y →
    IsKnown e x p.range p.spread → IsKnown f y q.range q.spread → T (is_small (interval_add (outer p) (outer q))) →
    IsKnown r (x +ℚ y) (interval_add p.range q.range) (p.spread + q.spread)
known_plus e f r x y p q rule hx hy k l t =
    by_rule r _ _ _ rule (k.measured, l.measured) small
    (interval_add_holds p.range q.range x y k.inside l.inside)
    (sum_limit r.spread e.spread f.spread p.spread q.spread k.narrow l.narrow)
  where
    small : AreSmall (IsResultOf ◌+ℚ◌ e.ends f.ends)
    small z w = rw w.is (small_holds (interval_add (outer p) (outer q)) (w.left +ℚ w.right) t
        (interval_add_holds (outer p) (outer q) w.left w.right (in_outer e x p k hx w.left w.of_left) (in_outer f y q l hy w.right w.of_right)))

pub plus_held : {A : Type 0} {C : A → Place → ℚ → Type 0} {E : A → Extent} {told : Bool} → Contained C E → {a b r : A} {h : Place} {x y : ℚ} {p q : Reach} →
    ((h : Place) (x y : ℚ) → C a h x → C b h y → C r h (x +ℚ y)) → (T told → IsNarrowSum (E a) (E b) (E r)) →
    IsHeld C E told a h x p → IsHeld C E told b h y q → IsHeld C E told r h (x +ℚ y) (p +ᴿ q)
unfolding ◌+ᴿ◌
plus_held {E = E} law {a} {b} {r} {h} {x} {y} {p} {q} covers narrow k l =
    record {
      covers = covers h x y k.covers l.covers;
      known = λ told t. let t0 = both _ _ t in let t1 = both _ _ t0.0 in
          known_plus (E a) (E b) (E r) x y p q (narrow told) (law a h x k.covers) (law b h y l.covers) (k.known told t1.0) (l.known told t1.1) t0.1;
    }

-- ---- difference
known_minus : (e f r : Extent) (x y : ℚ) (p q : Reach) → IsNarrowDifference e f r → Holds e.ends x → Holds f.ends y →
    IsKnown e x p.range p.spread → IsKnown f y q.range q.spread → T (is_small (interval_add (outer p) (interval_neg (outer q)))) →
    IsKnown r (x -ℚ y) (interval_add p.range (interval_neg q.range)) (p.spread + q.spread)
known_minus e f r x y p q rule hx hy k l t =
    by_rule r _ _ _ rule (k.measured, l.measured) small
    (interval_add_holds p.range (interval_neg q.range) x (neg_ℚ y) k.inside (interval_neg_holds q.range y l.inside))
    (sum_limit r.spread e.spread f.spread p.spread q.spread k.narrow l.narrow)
  where
    small : AreSmall (IsResultOf ◌-ℚ◌ e.ends f.ends)
    small z w = rw w.is (small_holds (interval_add (outer p) (interval_neg (outer q))) (w.left -ℚ w.right) t
        (interval_add_holds (outer p) (interval_neg (outer q)) w.left (neg_ℚ w.right) (in_outer e x p k hx w.left w.of_left)
        (interval_neg_holds (outer q) w.right (in_outer f y q l hy w.right w.of_right))))

pub minus_held : {A : Type 0} {C : A → Place → ℚ → Type 0} {E : A → Extent} {told : Bool} → Contained C E → {a b r : A} {h : Place} {x y : ℚ} {p q : Reach} →
    ((h : Place) (x y : ℚ) → C a h x → C b h y → C r h (x -ℚ y)) → (T told → IsNarrowDifference (E a) (E b) (E r)) →
    IsHeld C E told a h x p → IsHeld C E told b h y q → IsHeld C E told r h (x -ℚ y) (p -ᴿ q)
unfolding ◌-ᴿ◌
minus_held {E = E} law {a} {b} {r} {h} {x} {y} {p} {q} covers narrow k l =
    record {
      covers = covers h x y k.covers l.covers;
      known = λ told t. let t0 = both _ _ t in let t1 = both _ _ t0.0 in
          known_minus (E a) (E b) (E r) x y p q (narrow told) (law a h x k.covers) (law b h y l.covers) (k.known told t1.0) (l.known told t1.1) t0.1;
    }

-- ---- negative
known_negate : (e r : Extent) (x : ℚ) (p : Reach) → IsNarrowNegative e r → Holds e.ends x →
    IsKnown e x p.range p.spread → T (is_small (interval_neg (outer p))) → IsKnown r (neg_ℚ x) (interval_neg p.range) p.spread
known_negate e r x p rule hx k t =
    by_rule r _ _ _ rule k.measured small (interval_neg_holds p.range x k.inside) (λ h. nat_trans h k.narrow)
  where
    small : AreSmall (IsNegativeOf e.ends)
    small z w = rw w.is (small_holds (interval_neg (outer p)) (neg_ℚ w.number) t (interval_neg_holds (outer p) w.number (in_outer e x p k hx w.number w.of_number)))

pub negate_held : {A : Type 0} {C : A → Place → ℚ → Type 0} {E : A → Extent} {told : Bool} → Contained C E → {a r : A} {h : Place} {x : ℚ} {p : Reach} →
    ((h : Place) (x : ℚ) → C a h x → C r h (neg_ℚ x)) → (T told → IsNarrowNegative (E a) (E r)) →
    IsHeld C E told a h x p → IsHeld C E told r h (neg_ℚ x) (negative p)
unfolding negative
negate_held {E = E} law {a} {r} {h} {x} {p} covers narrow k =
    record {
      covers = covers h x k.covers;
      known = λ told t. let t0 = both _ _ t in known_negate (E a) (E r) x p (narrow told) (law a h x k.covers) (k.known told t0.0) t0.1;
    }

-- ---- sine and cosine
-- a number within 1 + 2^-60 of 0
above_low : (z : ℚ) → IsNear (part 60 +ℚ one_ℚ) z zero_ℚ → ratio (negsuc 100000) 100000 ≤ℚ z
above_low z h = le_by (z ∷ []) (gap h.below ⊕ known 36028797018960843 3602879701896396800000) (search reads depth 90) tt

below_high : (z : ℚ) → IsNear (part 60 +ℚ one_ℚ) z zero_ℚ → z ≤ℚ ratio (pos 100001) 100000
below_high z h = le_by (z ∷ []) (gap h.above ⊕ known 36028797018960843 3602879701896396800000) (search reads depth 90) tt

in_turn : (z : ℚ) → IsNear (part 60 +ℚ one_ℚ) z zero_ℚ → Inside turn_range z
unfolding ratio
in_turn z h = record { low = above_low z h; high = below_high z h }

known_turn : (e r : Extent) (pi x s c z : ℚ) (p : Reach) → IsNarrowTurn e r → IsNear (part 60 +ℚ one_ℚ) z zero_ℚ →
    IsKnown e x p.range p.spread → IsKnown r z turn_range (p.spread + 16)
known_turn e r pi x s c z p rule hz k =
    by_rule r _ _ _ rule k.measured small (in_turn z hz) (limit r.spread e.spread p.spread k.narrow)
  where
    small : AreSmall (IsTurnOf e.ends)
    small z w =
        let n = sine_pairs_are_bounded w.pi w.number w.sine w.cosine w.of_pi w.pair in
        small_holds turn_range z tt (⊎_elim
        (λ (q : z ≡ w.sine). subst (Inside turn_range) (sym q) (in_turn w.sine n.0))
        (λ (q : z ≡ w.cosine). subst (Inside turn_range) (sym q) (in_turn w.cosine n.1)) w.is)

    limit : (n a A : ℕ) → a ≤ A → n ≤ a + 16 → n ≤ A + 16
    limit n a A k h = omega arith

-- the sine's, and the cosine's
pub turn_held : {A : Type 0} {C : A → Place → ℚ → Type 0} {E : A → Extent} {told : Bool} → {a s c : A} {h : Place} {p x y z : ℚ} {r : Reach} →
    ((h : Place) (p x y z : ℚ) → IsPi p → IsSinCos p x y z → C a h x → C s h y × C c h z) → (T told → IsNarrowTurn (E a) (E s) × IsNarrowTurn (E a) (E c)) →
    IsPi p → IsSinCos p x y z → IsHeld C E told a h x r → IsHeld C E told s h y (turned r) × IsHeld C E told c h z (turned r)
unfolding turned
turn_held {E = E} {a} {s} {c} {h} {p} {x} {y} {z} {r} covers narrow pi i k =
    let n = sine_pairs_are_bounded p x y z pi i in (
      record { covers = (covers h p x y z pi i k.covers).0; known = λ told t. known_turn (E a) (E s) p x y z y r (narrow told).0 n.0 (k.known told t) },
      record { covers = (covers h p x y z pi i k.covers).1; known = λ told t. known_turn (E a) (E c) p x y z z r (narrow told).1 n.1 (k.known told t) },
    )

-- ---- a given interval
pub known_constant : (v : Iv) (r : Extent) (x : ℚ) (i : Interval) (n : ℕ) → IsNarrowConstant v r → Holds v x → IsBounded v → width_of v ≤ n → Inside i x →
    T (is_small (outer (reach_of i n))) → IsKnown r x i n
known_constant v r x i n rule hx b w h t =
    by_rule r _ _ _ rule b small h (λ f. nat_trans f w)
  where
    small : AreSmall (Holds v)
    small z hz = small_holds _ z t (in_outer (record { ends = v; spread = width_of v }) x (reach_of i n)
        (record { inside = h; measured = record { bounded = b; width = le_refl (width_of v) }; narrow = w }) hx z hz)

pub constant_held : {A : Type 0} {C : A → Place → ℚ → Type 0} {E : A → Extent} {told : Bool} → {v : Iv} {r : A} {h : Place} {x : ℚ} {i : Interval} {n : ℕ} →
    ((h : Place) (x : ℚ) → Holds v x → C r h x) → (T told → IsNarrowConstant v (E r)) → IsGiven v x i n → IsHeld C E told r h x (given i n)
unfolding given
constant_held {E = E} {v} {r} {h} {x} {i} {n} covers narrow k =
    record { covers = covers h x k.holds; known = λ told t. known_constant v (E r) x i n (narrow told) k.holds k.bounded k.within k.inside t }

-- ---- from one set of numerals to another
-- a range that is known by other means
pub claim_held : {A : Type 0} {C : A → Place → ℚ → Type 0} {E : A → Extent} {told : Bool} {a : A} {h : Place} {x : ℚ} {r : Reach} →
    (i : Interval) → IsHeld C E told a h x r → Inside i x → IsHeld C E told a h x (claimed r i)
claim_held i k h =
    record { covers = k.covers; known = λ told t. let n = k.known told t in record { inside = h; measured = n.measured; narrow = n.narrow } }

less_known : (e : Extent) (x : ℚ) (r s : Reach) → IsKnown e x r.range r.spread → T (coef_le s.range.low r.range.low) → T (coef_le r.range.high s.range.high) →
    T (non_neg (pos s.spread -ℤ pos r.spread)) → IsKnown e x s.range s.spread
less_known e x r s k l h n =
    record {
      inside = record { low = le_trans (coef_le_holds s.range.low r.range.low l) k.inside.low; high = le_trans k.inside.high (coef_le_holds r.range.high s.range.high h) };
      measured = k.measured;
      narrow = nat_trans k.narrow (of_test r.spread s.spread n);
    }
  where
    of_test : (a b : ℕ) → T (non_neg (pos b -ℤ pos a)) → a ≤ b
    of_test a b h = omega (arith, ints, h)

not_exceeded : (r s : Reach) → Exceeds r s → ⊥
not_exceeded r s h = elim h [ ]

-- numerals that say less. The last argument is `tt`.
pub within : {A : Type 0} {C : A → Place → ℚ → Type 0} {E : A → Extent} {told : Bool} {a : A} {h : Place} {x : ℚ} {r : Reach} →
    (s : Reach) → IsHeld C E told a h x r → Reaches r s → IsHeld C E told a h x s
within {E = E} {a} {x} {r} s k t =
    let t0 = both _ _ (passed (is_within r s) (not_exceeded r s) t) in
    let t1 = both _ _ t0.0 in
    let t2 = both _ _ t0.1 in
    record { covers = k.covers; known = λ told _. less_known (E a) x r s (k.known told t1.0) t1.1 t2.0 t2.1 }

-- what is covered is held, with numerals that say nothing
pub covered : {A : Type 0} {C : A → Place → ℚ → Type 0} {E : A → Extent} {told : Bool} {a : A} {h : Place} {x : ℚ} → C a h x → IsHeld C E told a h x nothing
covered k = record { covers = k; known = λ told t. absurd t }

-- an equal value
pub held_at : {A : Type 0} {C : A → Place → ℚ → Type 0} {E : A → Extent} {told : Bool} {a : A} {h : Place} {x y : ℚ} {r : Reach} → x ≡ y → IsHeld C E told a h x r → IsHeld C E told a h y r
held_at {C = C} {E = E} {told} {a} {h} {r = r} e k = subst (λ t. IsHeld C E told a h t r) e k
