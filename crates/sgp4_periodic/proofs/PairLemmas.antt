-- The spread of a sum or a difference of two products, where the sizes of two of the factors are known together.
use Rattle.std.proofs.Common.{◌≡◌, refl, arith, Bool, T, ℕ, ◌+◌, ◌*◌, ◌/◌, ◌^◌, ◌≤◌, max, pos, [], ◌∷◌, le_trans as nat_trans}
use Rattle.std.proofs.Math.Nat.{mul-le-mul}
use Rattle.exact.specs.Rational.{ℚ, abs_ℚ, ratio, one_ℚ, ◌+ℚ◌, ◌-ℚ◌, ◌*ℚ◌, ◌≤ℚ◌}
use Rattle.exact.proofs.Bounds.{by_abs, square}
use Rattle.exact.proofs.Order.{gap, known, le_by, ◌⊕◌, ◌⊗◌}
use Rattle.exact.proofs.RationalRing.{reads, ring}
use Rattle.fixed_iv.specs.Extent.{Extent, IsMeasured, size}
use Rattle.fixed_iv.specs.Narrow.{IsNarrowDifference, IsNarrowProduct, IsNarrowSum}
use Rattle.fixed_iv.specs.Place.{Place}
use Rattle.fixed_iv.specs.Reach.{IsHeld, IsKnown, Reach, outer_size, ◌+ᴿ◌, ◌-ᴿ◌, ◌*ᴿ◌}
use Rattle.fixed_iv.proofs.Held.{Contained, minus_held, plus_held, times_held}
use Rattle.fixed_iv.proofs.OuterLemmas.{both, size_known}
use Rattle.kepler_enc.specs.Guess.{AreSized}
use Rattle.kepler_enc.proofs.SizedLemmas.{sizes_known}
use Rattle.sgp4_model.specs.Angle.{IsPi, IsSinCos, part}
use Rattle.sgp4_model.proofs.Pythagoras.{squares_add_up_to_one}
use Rattle.sgp4_periodic.specs.Pairs.{inner_of, most_pair, outer_of, spread_of_pair}

-- ---- the arithmetic: A + B at most L; the spreads c and s at most M
add_products : (A B M L c s : ℕ) → A + B ≤ L → c ≤ M → s ≤ M → A * c + B * s ≤ L * M
add_products A B M L c s h p q =
    let k : A * c ≤ A * M = mul-le-mul (omega arith) p in
    let l : B * s ≤ B * M = mul-le-mul (omega arith) q in
    let m : (A + B) * M ≤ L * M = mul-le-mul h (omega arith) in
    distribute A B M (A * c) (B * s) (L * M) k l m
  where
    distribute : (A B M x y z : ℕ) → x ≤ A * M → y ≤ B * M → (A + B) * M ≤ z → x + y ≤ z
    distribute A B M x y z k l m = grind (arith, k, l, m)

divided : (n m d x y u v L C S : ℕ) → n ≤ m + d → m * 2 ^ 48 ≤ x + u + 2 * 2 ^ 48 → d * 2 ^ 48 ≤ y + v + 2 * 2 ^ 48 → x + y ≤ L → u ≤ C → v ≤ S →
    n ≤ (L + C + S) / 281474976710656 + 4
divided n m d x y u v L C S h p q k l o = omega arith

pair_limit : (n m d A B c s a b oC oS L M Sa Sb fc fs : ℕ) → n ≤ m + d → m * 2 ^ 48 ≤ A * c + fc * a + 2 * 2 ^ 48 → d * 2 ^ 48 ≤ B * s + fs * b + 2 * 2 ^ 48 →
    A + B ≤ L → c ≤ M → s ≤ M → fc ≤ oC → fs ≤ oS → a ≤ Sa → b ≤ Sb → n ≤ (L * M + oC * Sa + oS * Sb) / 281474976710656 + 4
pair_limit n m d A B c s a b oC oS L M Sa Sb fc fs h p q sizes hc hs of_c of_s of_a of_b =
    divided n m d (A * c) (B * s) (fc * a) (fs * b) (L * M) (oC * Sa) (oS * Sb) h p q (add_products A B M L c s sizes hc hs) (mul-le-mul of_c of_a) (mul-le-mul of_s of_b)

below_max : (a b c d : ℕ) → a ≤ c → b ≤ d → (a ≤ max c d) × (b ≤ max c d)
below_max a b c d h k = (omega arith, omega arith)

module _ {A : Type 0} {C : A → Place → ℚ → Type 0} {E : A → Extent} {told : Bool} (law : Contained C E) {a b c s p d : A} {h : Place} {x y z w : ℚ} {ra rb rc rs : Reach}
    (known : Bool) (sum : ℕ) (sized : T known → AreSized sum x y)
    (p_covers : (h : Place) (x y : ℚ) → C a h x → C c h y → C p h (x *ℚ y)) (p_narrow : T told → IsNarrowProduct (E a) (E c) (E p))
    (d_covers : (h : Place) (x y : ℚ) → C b h x → C s h y → C d h (x *ℚ y)) (d_narrow : T told → IsNarrowProduct (E b) (E s) (E d))
    (of_a : IsHeld C E told a h x ra) (of_b : IsHeld C E told b h y rb) (of_c : IsHeld C E told c h z rc) (of_s : IsHeld C E told s h w rs) where
  first : IsHeld C E told p h (x *ℚ z) (ra *ᴿ rc)
  first = times_held law p_covers p_narrow of_a of_c

  second : IsHeld C E told d h (y *ℚ w) (rb *ᴿ rs)
  second = times_held law d_covers d_narrow of_b of_s

  -- what is known of the result, narrower
  narrow_pair : (r : A) (i : T told) → T known → IsKnown (E a) x ra.range ra.spread → IsKnown (E b) y rb.range rb.spread → IsKnown (E c) z rc.range rc.spread → IsKnown (E s) w rs.range rs.spread →
      IsMeasured (E p) → IsMeasured (E d) → (E r).spread ≤ (E p).spread + (E d).spread → (E r).spread ≤ spread_of_pair known sum ra rb rc rs
  narrow_pair r i t ka kb kc ks mp md le =
      let m = below_max (E c).spread (E s).spread rc.spread rs.spread kc.narrow ks.narrow in
      pair_limit (E r).spread (E p).spread (E d).spread (size (E a).ends) (size (E b).ends) (E c).spread (E s).spread (E a).spread (E b).spread (outer_size rc) (outer_size rs)
      (sum + ra.spread + rb.spread) (max rc.spread rs.spread) ra.spread rb.spread (size (E c).ends) (size (E s).ends)
      le ((p_narrow i).spread (ka.measured, kc.measured) mp.bounded) ((d_narrow i).spread (kb.measured, ks.measured) md.bounded)
      (sizes_known (E a).ends (E b).ends sum ra.spread rb.spread x y ka.measured.bounded kb.measured.bounded (nat_trans ka.measured.width ka.narrow) (nat_trans kb.measured.width kb.narrow) (law a h x of_a.covers) (law b h y of_b.covers) (sized t))
      m.0 m.1 (size_known (E c) z rc kc (law c h z of_c.covers)) (size_known (E s) w rs ks (law s h w of_s.covers)) ka.narrow kb.narrow

  pub inner_held : {r : A} → ((h : Place) (x y : ℚ) → C p h x → C d h y → C r h (x +ℚ y)) → (T told → IsNarrowSum (E p) (E d) (E r)) → IsHeld C E told r h (x *ℚ z +ℚ y *ℚ w) (inner_of known sum ra rb rc rs)
  unfolding inner_of ◌+ᴿ◌ ◌*ᴿ◌
  inner_held {r} covers narrow =
      let plain = plus_held law covers narrow first second in
      record {
        covers = plain.covers;
        known = λ i t.
            let t0 = both _ _ t in
            let t1 = both _ _ t0.1 in
            let t2 = both _ _ t1.0 in
            let t3 = both _ _ t2.0 in
            let t4 = both _ _ t2.1 in
            let t5 = both _ _ t3.0 in
            let t6 = both _ _ t4.0 in
            let k = plain.known i t0.1 in
            let kp = first.known i t2.0 in
            let kd = second.known i t2.1 in
            record {
              inside = k.inside;
              measured = k.measured;
              narrow = narrow_pair r i t0.0 (of_a.known i t5.0) (of_b.known i t6.0) (of_c.known i t5.1) (of_s.known i t6.1) kp.measured kd.measured ((narrow i).spread (kp.measured, kd.measured) k.measured.bounded);
            };
      }

  pub outer_held : {r : A} → ((h : Place) (x y : ℚ) → C p h x → C d h y → C r h (x -ℚ y)) → (T told → IsNarrowDifference (E p) (E d) (E r)) → IsHeld C E told r h (x *ℚ z -ℚ y *ℚ w) (outer_of known sum ra rb rc rs)
  unfolding outer_of ◌-ᴿ◌ ◌*ᴿ◌
  outer_held {r} covers narrow =
      let plain = minus_held law covers narrow first second in
      record {
        covers = plain.covers;
        known = λ i t.
            let t0 = both _ _ t in
            let t1 = both _ _ t0.1 in
            let t2 = both _ _ t1.0 in
            let t3 = both _ _ t2.0 in
            let t4 = both _ _ t2.1 in
            let t5 = both _ _ t3.0 in
            let t6 = both _ _ t4.0 in
            let k = plain.known i t0.1 in
            let kp = first.known i t2.0 in
            let kd = second.known i t2.1 in
            record {
              inside = k.inside;
              measured = k.measured;
              narrow = narrow_pair r i t0.0 (of_a.known i t5.0) (of_b.known i t6.0) (of_c.known i t5.1) (of_s.known i t6.1) kp.measured kd.measured ((narrow i).spread (kp.measured, kd.measured) k.measured.bounded);
            };
      }

-- ---- the numbers of a pair
-- where the squares of two numbers add up to 1, to 2^-58, the numbers add up to at most 1.41422
sum_below : (x y : ℚ) → x *ℚ x +ℚ y *ℚ y ≤ℚ one_ℚ +ℚ part 58 → x +ℚ y ≤ℚ ratio (pos 398067541563744) 281474976710656
sum_below x y h =
    le_by (x ∷ y ∷ [])
    (known 5000 7071 ⊗ (gap h ⊕ square (x -ℚ ratio (pos 7071) 10000) ⊕ square (y -ℚ ratio (pos 7071) 10000)) ⊕ known 1025019275229682207 159224764825683886080000)
    (search reads depth 90) tt

abs_square : (x : ℚ) → abs_ℚ x *ℚ abs_ℚ x ≡ x *ℚ x
abs_square x = by_abs (λ t. t *ℚ t ≡ x *ℚ x) x (λ _. refl) (λ _. ring (x ∷ []) (search reads depth 90) tt)

pub pair_sized : (pi x s c : ℚ) → IsPi pi → IsSinCos pi x s c → AreSized most_pair c s
pair_sized pi x s c is_pi pair =
    let squares = squares_add_up_to_one pi x s c is_pi pair in
    sum_below (abs_ℚ c) (abs_ℚ s) (rw (abs_square c, abs_square s) (le_by (s ∷ c ∷ []) (gap squares.above) (search reads depth 90) tt))
