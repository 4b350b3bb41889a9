-- How far the spreads of enclosures go after products and sums, where the spread of one argument is a variable.
use Rattle.std.proofs.Common.{◌≡◌, arith, ⊎_elim, ℕ, ◌+◌, ◌*◌, ◌≤◌, [], ◌∷◌, pos, neg_ℤ, ◌≤ℤ◌, le_trans as nat_trans, le_refl}
use Rattle.std.proofs.Math.Nat.{mul-le-mul}
use Rattle.std.proofs.lemmas.Int.{ints}
use Rattle.exact.specs.Rational.{ℚ, ◌+ℚ◌, ◌-ℚ◌, ◌*ℚ◌, abs_ℚ, ratio, zero_ℚ, one_ℚ, ◌≤ℚ◌}
use Rattle.exact.proofs.RationalRing.{reads}
use Rattle.exact.proofs.Order.{le_by, le_trans, gap, known, ◌⊕◌, ◌⊗◌}
use Rattle.exact.proofs.Bounds.{abs_le}
use Rattle.sgp4_model.specs.Angle.{IsNear, part}
use Rattle.sgp4_model.proofs.Pythagoras.{sine_pairs_are_bounded}
use Rattle.exact.proofs.Integers.{le_of_int, of_int_is, of_int_neg}
use Rattle.fixed_iv.specs.Extent.{AreSmall, Extent, size, width_of}
use Rattle.fixed_iv.specs.Holds.{Holds, IsBounded}
use Rattle.fixed_iv.specs.Narrow.{IsNarrowConstant, IsNarrowDifference, IsNarrowProduct, IsNarrowSum, IsNarrowTurn, IsTurnOf}
use Rattle.fixed_iv.specs.declared.iv.Iv.{Iv}
use Rattle.fixed_iv.proofs.OuterLemmas.{width_is}
use Rattle.fixed_iv.proofs.WidthLemmas.{sized}
use Rattle.earth_frame.specs.Slim.{IsSlim, IsSlimAt}
use Rattle.earth_frame.specs.Spread.{IsSpreadWithin, IsWithinOne}
use Rattle.earth_frame.proofs.SlimLemmas.{IsLittle, from_ends, little_le, little_neg, little_product, little_small, little_sum, slim_small, slim_unit, sum_width, product_width}

-- bounds that hold a number of at most so many units, and are no wider than n
size_around : {s : ℕ} (n : ℕ) {v : Iv} {z : ℚ} → IsBounded v → Holds v z → IsLittle s z → width_of v ≤ n → size v ≤ s + n
size_around {s} n {v} {z} b h l m =
    let low : v.lo ≤ℤ pos s = le_of_int (le_trans (h.low b.low) l.high) in
    let high : neg_ℤ (pos s) ≤ℤ v.hi = le_of_int (rw of_int_neg (le_trans l.low (h.high b.high))) in
    from_ends v.lo v.hi (s + n) v.ordered (omega (arith, ints, low, high, width_is v, m)) (omega (arith, ints, low, high, width_is v, m))

-- the most that the spread can be, with w at most 2
at_most : (w k d n p : ℕ) → w ≤ 562949953421312 → k + d * 562949953421312 ≤ n * 1000 → p * 1000 ≤ k + d * w → p ≤ n
at_most w k d n p h r q =
    let g : d * w ≤ d * 562949953421312 = mul-le-mul (le_refl d) h in
    omega (arith, h, r, q, g)

pub constant_slim : {w s k d : ℕ} {v : Iv} {e : Extent} (n : ℕ) {z : ℚ} → IsNarrowConstant v e → IsSlim w s k d v → s ≤ 32000 * 281474976710656 →
    Holds v z → Holds e.ends z → w ≤ 562949953421312 → k + d * 562949953421312 ≤ n * 1000 → IsSlimAt w (s + n) k d e
constant_slim {w} {s} {k} {d} {v} {e} n {z} rule h top hv he room fit =
    let b = rule.bounded h.bounded (slim_small top h) in
    let p : e.spread * 1000 ≤ k + d * w = thousand (rule.spread h.bounded b) in
    record {
      measured = rule.measured h.bounded b;
      size = size_around n b he (little_le s h.size (sized h.bounded hv)) (nat_trans (rule.measured h.bounded b).width (at_most w k d n e.spread room fit p));
      spread = p;
    }
  where
    thousand : e.spread ≤ width_of v → e.spread * 1000 ≤ k + d * w
    thousand q = omega (arith, q, h.width)

pub product_slim : {w s k d t l f : ℕ} {a b r : Extent} (most m g n : ℕ) {x y : ℚ} → IsNarrowProduct a b r → IsSlimAt w s k d a → IsSlimAt w t l f b →
    Holds a.ends x → Holds b.ends y → Holds r.ends (x *ℚ y) → s * t ≤ most * 281474976710656 → most ≤ 32000 * 281474976710656 →
    s * l + t * k + 2000 * 281474976710656 ≤ m * 281474976710656 → s * f + t * d ≤ g * 281474976710656 →
    w ≤ 562949953421312 → m + g * 562949953421312 ≤ n * 1000 → IsSlimAt w (most + n) m g r
product_slim {w} {s} {k} {d} {t} {l} {f} {a} {b} {r} most m g n {x} {y} rule ha hb hx hy hr room top fixed slope small fit =
    let bounded = rule.bounded (ha.measured, hb.measured) (λ z q. little_small most z top (rw q.is (little q.left q.right q.of_left q.of_right))) in
    let measured = rule.measured (ha.measured, hb.measured) bounded in
    let p = product_width w s k d t l f m g r.spread (size a.ends) (size b.ends) a.spread b.spread ha.size hb.size ha.spread hb.spread fixed slope (rule.spread (ha.measured, hb.measured) bounded) in
    record {
      measured = measured;
      size = size_around n bounded hr (little x y hx hy) (nat_trans measured.width (at_most w m g n r.spread small fit p));
      spread = p;
    }
  where
    little : (p q : ℚ) → Holds a.ends p → Holds b.ends q → IsLittle most (p *ℚ q)
    little p q hp hq = little_product (size a.ends) (size b.ends) most p q (nat_trans (mul-le-mul ha.size hb.size) room) (sized ha.measured.bounded hp) (sized hb.measured.bounded hq)

pub sum_slim : {w s k d t l f : ℕ} {a b r : Extent} (n : ℕ) {x y : ℚ} → IsNarrowSum a b r → IsSlimAt w s k d a → IsSlimAt w t l f b →
    Holds a.ends x → Holds b.ends y → Holds r.ends (x +ℚ y) → s + t ≤ 32000 * 281474976710656 →
    w ≤ 562949953421312 → (k + l) + (d + f) * 562949953421312 ≤ n * 1000 → IsSlimAt w (s + t + n) (k + l) (d + f) r
sum_slim {w} {s} {k} {d} {t} {l} {f} {a} {b} {r} n {x} {y} rule ha hb hx hy hr top small fit =
    let bounded = rule.bounded (ha.measured, hb.measured) (λ z q. little_small (s + t) z top (rw q.is (little q.left q.right q.of_left q.of_right))) in
    let measured = rule.measured (ha.measured, hb.measured) bounded in
    let p = sum_width w r.spread a.spread b.spread k d l f ha.spread hb.spread (rule.spread (ha.measured, hb.measured) bounded) in
    record {
      measured = measured;
      size = size_around n bounded hr (little x y hx hy) (nat_trans measured.width (at_most w (k + l) (d + f) n r.spread small fit p));
      spread = p;
    }
  where
    little : (p q : ℚ) → Holds a.ends p → Holds b.ends q → IsLittle (s + t) (p +ℚ q)
    little p q hp hq = little_sum s t (s + t) p q (le_refl (s + t)) (little_le s ha.size (sized ha.measured.bounded hp)) (little_le t hb.size (sized hb.measured.bounded hq))

pub difference_slim : {w s k d t l f : ℕ} {a b r : Extent} (n : ℕ) {x y : ℚ} → IsNarrowDifference a b r → IsSlimAt w s k d a → IsSlimAt w t l f b →
    Holds a.ends x → Holds b.ends y → Holds r.ends (x -ℚ y) → s + t ≤ 32000 * 281474976710656 →
    w ≤ 562949953421312 → (k + l) + (d + f) * 562949953421312 ≤ n * 1000 → IsSlimAt w (s + t + n) (k + l) (d + f) r
difference_slim {w} {s} {k} {d} {t} {l} {f} {a} {b} {r} n {x} {y} rule ha hb hx hy hr top small fit =
    let bounded = rule.bounded (ha.measured, hb.measured) (λ z q. little_small (s + t) z top (rw q.is (little q.left q.right q.of_left q.of_right))) in
    let measured = rule.measured (ha.measured, hb.measured) bounded in
    let p = sum_width w r.spread a.spread b.spread k d l f ha.spread hb.spread (rule.spread (ha.measured, hb.measured) bounded) in
    record {
      measured = measured;
      size = size_around n bounded hr (little x y hx hy) (nat_trans measured.width (at_most w (k + l) (d + f) n r.spread small fit p));
      spread = p;
    }
  where
    little : (p q : ℚ) → Holds a.ends p → Holds b.ends q → IsLittle (s + t) (p -ℚ q)
    little p q hp hq = little_sum s t (s + t) p _ (le_refl (s + t)) (little_le s ha.size (sized ha.measured.bounded hp)) (little_neg t q (little_le t hb.size (sized hb.measured.bounded hq)))

-- bounds between -1 and 1
pub unit_slim : {e : Extent} → IsWithinOne e → IsSlimAt e.spread 281474976710656 0 1000 e
unit_slim {e} h = record { measured = h.measured; size = (slim_unit h.unit).size; spread = omega arith }

-- ---- sines and cosines
turn_small : (v : Iv) → AreSmall (IsTurnOf v)
turn_small v z w =
    let n = sine_pairs_are_bounded w.pi w.number w.sine w.cosine w.of_pi w.pair in
    ⊎_elim
    (λ (q : z ≡ w.sine). rw q (near_small w.sine n.0))
    (λ (q : z ≡ w.cosine). rw q (near_small w.cosine n.1)) w.is
  where
    near_small : (z : ℚ) → IsNear (part 60 +ℚ one_ℚ) z zero_ℚ → abs_ℚ z ≤ℚ ratio (pos 32000) 1
    near_small z h =
        abs_le (le_by (z ∷ []) (gap h.below ⊕ known 36892335225914496385023 1152921504606846976) (search reads depth 90) tt)
        (le_by (z ∷ []) (gap h.above ⊕ known 36892335225914496385023 1152921504606846976) (search reads depth 90) tt)

pub turn_within : {n m : ℕ} {a r : Extent} → n + 16 ≤ m → IsNarrowTurn a r → IsSpreadWithin n a → IsSpreadWithin m r
turn_within {n} {m} {a} {r} room rule h =
    let b = rule.bounded h.measured (turn_small a.ends) in
    record { measured = rule.measured h.measured b; spread = more (rule.spread h.measured b) }
  where
    more : r.spread ≤ a.spread + 16 → r.spread ≤ m
    more q = omega (arith, q, h.spread, room)

-- a sine or a cosine is little more than 1 in size
little_turn : (z : ℚ) → IsNear (part 60 +ℚ one_ℚ) z zero_ℚ → IsLittle 281474976710657 z
little_turn z h = record {
  low = rw (of_int_is (pos 281474976710657)) (le_by (z ∷ []) (known 281474976710656 1 ⊗ gap h.below ⊕ known 4095 4096) (search reads depth 90) tt);
  high = rw (of_int_is (pos 281474976710657)) (le_by (z ∷ []) (known 281474976710656 1 ⊗ gap h.above ⊕ known 4095 4096) (search reads depth 90) tt);
}

pub turn_slim : {w s k d : ℕ} {a r : Extent} (n : ℕ) {z : ℚ} → IsNarrowTurn a r → IsSlimAt w s k d a → IsNear (part 60 +ℚ one_ℚ) z zero_ℚ → Holds r.ends z →
    w ≤ 562949953421312 → (k + 16000) + d * 562949953421312 ≤ n * 1000 → IsSlimAt w (281474976710657 + n) (k + 16000) d r
turn_slim {w} {s} {k} {d} {a} {r} n {z} rule h near hz room fit =
    let b = rule.bounded h.measured (turn_small a.ends) in
    let p : r.spread * 1000 ≤ (k + 16000) + d * w = more (rule.spread h.measured b) in
    record {
      measured = rule.measured h.measured b;
      size = size_around n b hz (little_turn z near) (nat_trans (rule.measured h.measured b).width (at_most w (k + 16000) d n r.spread room fit p));
      spread = p;
    }
  where
    more : r.spread ≤ a.spread + 16 → r.spread * 1000 ≤ (k + 16000) + d * w
    more q = omega (arith, q, h.spread)
