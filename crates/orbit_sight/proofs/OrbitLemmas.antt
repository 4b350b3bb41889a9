-- What is known of an orbit within seven days of its epoch, from the ranges of its constants.
use Rattle.std.proofs.Common.{◌≡◌, ◌∙◌, arith, subst, sym, Bool, true, false, not, T, [], ◌∷◌, ◌<◌, ◌*◌, ◌^◌, ◌-◌, ℕ, ℤ, pos, negsuc, suc, ◌≤ℤ◌, unsigned_abs}
use Rattle.std.proofs.lemmas.Int.{ints, by_lt_z}
use Rattle.exact.specs.Rational.{ℚ, at_least_0, of_int, ratio, neg_ℚ, one_ℚ, zero_ℚ, ◌+ℚ◌, ◌-ℚ◌, ◌*ℚ◌, ◌^ℚ◌, ◌≤ℚ◌, ◌<ℚ◌}
use Rattle.exact.proofs.Integers.{of_int_is, of_int_le, ratio_is_product}
use Rattle.exact.specs.Interval.{Inside, between}
use Rattle.exact.proofs.Intervals.{inside, le_on}
use Rattle.exact.proofs.Order.{gap, known, le_by, le_trans, ◌⊕◌, ◌⊗◌}
use Rattle.exact.proofs.RationalRing.{ring, reads}
use Rattle.exact.proofs.Strict.{lt_by, positive_known, positive_sum}
use Rattle.exact.proofs.Tests.{by_test}
use Rattle.enc_plain.specs.declared.plain.Plain.{Plain}
use Rattle.enc_plain.proofs.PlainHeld.{middle}
use Rattle.fixed_iv.specs.Reach.{turn_range, turned}
use Rattle.fixed_iv.proofs.OuterLemmas.{number_ratio}
use Rattle.sgp4_init.specs.ReachConsts.{reach_consts}
use Rattle.sgp4_model.specs.Angle.{IsNear, IsPi, part}
use Rattle.sgp4_model.specs.Constants.{InitRecord, IsConsts, IsInitialised, kept_of}
use Rattle.sgp4_model.specs.MeanElements.{IsEccentricityGuarded, IsMeanUnguarded, SecularRecord, least_ecc}
use Rattle.sgp4_model.specs.OrbitRecords.{ConstRecord, MeanRecord}
use Rattle.sgp4_model.specs.Numerals.{whole}
use Rattle.sgp4_model.specs.Records.{SetRecord}
use Rattle.sgp4_model.specs.Wgs72.{earth_radius_km}
use Rattle.sgp4_model.proofs.Pythagoras.{sine_pairs_are_bounded}
use Rattle.sgp4_motion.specs.Fate.{IsNearEarth}
use Rattle.sgp4_shape.specs.Covering.{unit_minutes}
use Rattle.sgp4_shape.specs.HeldConsts.{IsHeldConsts}
use Rattle.sgp4_shape.specs.declared.consts.Consts.{Consts}
use Rattle.orbit_sight.specs.Craft.{plain_covers, plain_extent}
use Rattle.orbit_sight.proofs.BendLemmas.{bend_inside}
use Rattle.orbit_sight.proofs.DistanceLemmas.{IsNearOrbit}

-- ---- the time
within_a_week : (z : ℤ) → ((604800 * 10 ^ 9 < unsigned_abs z) → ⊥) → (negsuc 604799999999999 ≤ℤ z) × (z ≤ℤ pos 604800000000000)
within_a_week (pos n) f = (omega (arith, ints), by_lt_z (pos 604800000000000) (pos n) (λ p. absurd (f (omega (arith, ints, p)))) (λ p. p))
within_a_week (negsuc n) f = (by_lt_z (pos 604800000000000) (pos (suc n)) (λ p. absurd (f (omega (arith, ints, p)))) (λ p. omega (arith, ints, p)), omega (arith, ints))

abbrev pub WeekInside : ℚ → Type 0
WeekInside = Inside (between (negsuc 6152) 10000 (pos 6153) 10000)

pub week_inside : (z : ℤ) → ((604800 * 10 ^ 9 < unsigned_abs z) → ⊥) → WeekInside (ratio z 983040000000000)
week_inside z f =
    let ends = within_a_week z f in
    let low = rw (of_int_is (negsuc 604799999999999)) at (of_int_le ends.0) in
    let high = rw (of_int_is (pos 604800000000000)) at (of_int_le ends.1) in
    inside (negsuc 6152) 10000 (pos 6153) 10000
    (rw (ratio_is_product z 983040000000000) (le_by (of_int z ∷ []) (known 1 983040000000000 ⊗ gap low ⊕ known 21 320000) (search reads depth 90) tt))
    (rw (ratio_is_product z 983040000000000) (le_by (of_int z ∷ []) (known 1 983040000000000 ⊗ gap high ⊕ known 21 320000) (search reads depth 90) tt))

-- ---- the drag factor of the semimajor axis
factor_inside : (c1 d2 d3 d4 x : ℚ) → Inside (reach_consts.c1).range c1 → Inside (reach_consts.d2).range d2 → Inside (reach_consts.d3).range d3 → Inside (reach_consts.d4).range d4 → WeekInside x →
    Inside (between (pos 998) 1000 (pos 1002) 1000) (one_ℚ -ℚ c1 *ℚ x -ℚ d2 *ℚ (x *ℚ x) -ℚ d3 *ℚ (x *ℚ x *ℚ x) -ℚ d4 *ℚ (x *ℚ x *ℚ (x *ℚ x)))
factor_inside c1 d2 d3 d4 x i j k l t =
    inside (pos 998) 1000 (pos 1002) 1000
    (le_on (10 ^ 30)
    (between (negsuc 1820) 1000000 (pos 1821) 1000000 ∷ between (negsuc 399) 1000000 (pos 400) 1000000 ∷ between (negsuc 234) 1000000 (pos 235) 1000000 ∷ between (negsuc 87) 1000000 (pos 88) 1000000 ∷ between (negsuc 6152) 10000 (pos 6153) 10000 ∷ [])
    (c1 ∷ d2 ∷ d3 ∷ d4 ∷ x ∷ []) (i, (j, (k, (l, (t, tt))))) (search reads depth 120) tt)
    (le_on (10 ^ 30)
    (between (negsuc 1820) 1000000 (pos 1821) 1000000 ∷ between (negsuc 399) 1000000 (pos 400) 1000000 ∷ between (negsuc 234) 1000000 (pos 235) 1000000 ∷ between (negsuc 87) 1000000 (pos 88) 1000000 ∷ between (negsuc 6152) 10000 (pos 6153) 10000 ∷ [])
    (c1 ∷ d2 ∷ d3 ∷ d4 ∷ x ∷ []) (i, (j, (k, (l, (t, tt))))) (search reads depth 120) tt)

factor_is : (c1 d2 d3 d4 x : ℚ) →
    one_ℚ -ℚ unit_minutes 1 *ℚ c1 *ℚ x -ℚ unit_minutes 2 *ℚ d2 *ℚ (x *ℚ x) -ℚ unit_minutes 3 *ℚ d3 *ℚ (x *ℚ x *ℚ x) -ℚ unit_minutes 4 *ℚ d4 *ℚ (x *ℚ x *ℚ (x *ℚ x)) ≡
    one_ℚ -ℚ c1 *ℚ (unit_minutes 1 *ℚ x) -ℚ d2 *ℚ (unit_minutes 1 *ℚ x) ^ℚ 2 -ℚ d3 *ℚ (unit_minutes 1 *ℚ x) ^ℚ 3 -ℚ d4 *ℚ (unit_minutes 1 *ℚ x) ^ℚ 4
factor_is c1 d2 d3 d4 x = ring (c1 ∷ d2 ∷ d3 ∷ d4 ∷ x ∷ []) (search reads depth 200) tt

-- ---- what drag takes from the eccentricity
loss_small : (b c4 c5 s n x : ℚ) → Inside (reach_consts.bstar).range b → Inside (reach_consts.c4).range c4 → Inside (reach_consts.c5).range c5 → Inside turn_range s → Inside turn_range n → WeekInside x →
    IsNear (ratio (pos 7) 10000) (b *ℚ c4 *ℚ x +ℚ b *ℚ c5 *ℚ (s -ℚ n)) zero_ℚ
loss_small b c4 c5 s n x i j k l o t =
    record {
      above = le_on (10 ^ 30)
          (between (negsuc 0) 1000 (pos 1) 1000 ∷ between (negsuc 106) 100 (pos 107) 100 ∷ between (negsuc 4) 1000 (pos 5) 1000 ∷ turn_range ∷ turn_range ∷ between (negsuc 6152) 10000 (pos 6153) 10000 ∷ [])
          (b ∷ c4 ∷ c5 ∷ s ∷ n ∷ x ∷ []) (i, (j, (k, (l, (o, (t, tt)))))) (search reads depth 120) tt;
      below = le_on (10 ^ 30)
          (between (negsuc 0) 1000 (pos 1) 1000 ∷ between (negsuc 106) 100 (pos 107) 100 ∷ between (negsuc 4) 1000 (pos 5) 1000 ∷ turn_range ∷ turn_range ∷ between (negsuc 6152) 10000 (pos 6153) 10000 ∷ [])
          (b ∷ c4 ∷ c5 ∷ s ∷ n ∷ x ∷ []) (i, (j, (k, (l, (o, (t, tt)))))) (search reads depth 120) tt;
    }

loss_is : (b c4 c5 n s x : ℚ) → b *ℚ (unit_minutes 1 *ℚ c4) *ℚ x +ℚ b *ℚ c5 *ℚ (s -ℚ n) ≡ b *ℚ c4 *ℚ (unit_minutes 1 *ℚ x) +ℚ b *ℚ c5 *ℚ (s -ℚ n)
loss_is b c4 c5 n s x = ring (b ∷ c4 ∷ c5 ∷ n ∷ s ∷ x ∷ []) (search reads depth 90) tt

turn_inside : (s : ℚ) → IsNear (part 60 +ℚ one_ℚ) s zero_ℚ → Inside turn_range s
turn_inside s h =
    inside (negsuc 100000) 100000 (pos 100001) 100000
    (le_by (s ∷ []) (gap h.below ⊕ known (2 ^ 60 - 100000) (100000 * 2 ^ 60)) (search reads depth 90) tt)
    (le_by (s ∷ []) (gap h.above ⊕ known (2 ^ 60 - 100000) (100000 * 2 ^ 60)) (search reads depth 90) tt)

-- ---- the eccentricity
guarded : (e loss ecc : ℚ) → zero_ℚ ≤ℚ e → e ≤ℚ ratio (pos 1) 5 → IsNear (ratio (pos 7) 10000) loss zero_ℚ → ecc ≡ e -ℚ loss → IsEccentricityGuarded ecc
guarded e loss ecc low high near is =
    rw is
    record {
      low = le_by (e ∷ loss ∷ []) (gap low ⊕ gap near.above ⊕ known 3 10000) (search reads depth 90) tt;
      high = lt_by (e ∷ loss ∷ []) (positive_sum (positive_known 7992 10000) (gap high ⊕ gap near.below)) (search reads depth 90) tt;
    }

raised : (e loss ecc m : ℚ) → zero_ℚ ≤ℚ e → IsNear (ratio (pos 7) 10000) loss zero_ℚ → ecc ≡ e -ℚ loss → (least_ecc ≤ℚ ecc → m ≡ ecc) → (ecc <ℚ least_ecc → m ≡ least_ecc) →
    (least_ecc ≤ℚ m) × (m ≤ℚ e +ℚ ratio (pos 7) 10000)
raised e loss ecc m low near is above below = by_test (at_least_0 (ecc -ℚ least_ecc)) (λ t. kept (record { le = t })) (λ t. least (record { lt = t }))
  where
    kept : least_ecc ≤ℚ ecc → (least_ecc ≤ℚ m) × (m ≤ℚ e +ℚ ratio (pos 7) 10000)
    kept h = rw (above h) (h, rw is (le_by (e ∷ loss ∷ []) (gap near.below) (search reads depth 90) tt))

    least : ecc <ℚ least_ecc → (least_ecc ≤ℚ m) × (m ≤ℚ e +ℚ ratio (pos 7) 10000)
    least h = rw (below h) (le_by [] (known 0 1) (search reads depth 90) tt, le_by (e ∷ []) (gap low ⊕ known 699 1000000) (search reads depth 90) tt)

-- ---- the perigee
perigee_high : (rp : ℚ) → whole 300 ≤ℚ (rp -ℚ one_ℚ) *ℚ earth_radius_km → ratio (pos 10470) 10000 ≤ℚ rp
perigee_high rp h = le_by (rp ∷ []) (known 1000 6378135 ⊗ gap h ⊕ known 227655 6378135000) (search reads depth 90) tt

perigee_of_kept : (set : SetRecord) (pi : ℚ) (v : InitRecord) → IsPi pi → IsNearEarth set → IsInitialised v set pi → ratio (pos 10470) 10000 ≤ℚ (kept_of v).a *ℚ (one_ℚ -ℚ (kept_of v).e)
perigee_of_kept set pi v is_pi near is = subst (λ r. ratio (pos 10470) 10000 ≤ℚ r) is.recovered.recovers.rp_is (perigee_high v.motion.rp (near.perigee pi v.motion is_pi is.recovered))

-- ---- the ends of a range
least_in : (m n : ℤ) (c d : ℕ) (x : ℚ) → Inside (record { low = record { num = m; under = c }; high = record { num = n; under = d } }) x → ratio m (suc c) ≤ℚ x
least_in m n c d x i = subst (λ z. z ≤ℚ x) (number_ratio (record { num = m; under = c })) i.low

most_in : (m n : ℤ) (c d : ℕ) (x : ℚ) → Inside (record { low = record { num = m; under = c }; high = record { num = n; under = d } }) x → x ≤ℚ ratio n (suc d)
most_in m n c d x i = subst (λ z. x ≤ℚ z) (number_ratio (record { num = n; under = d })) i.high

-- a number from -n / (d + 1) to n / (d + 1)
near_in : (m : ℤ) (n d : ℕ) (x : ℚ) → ratio m (suc d) ≡ neg_ℚ (ratio (pos n) (suc d)) → Inside (record { low = record { num = m; under = d }; high = record { num = pos n; under = d } }) x → IsNear (ratio (pos n) (suc d)) x zero_ℚ
near_in m n d x e i =
    let low = subst (λ z. z ≤ℚ x) e (least_in m (pos n) d d x i) in
    record {
      above = le_by (ratio (pos n) (suc d) ∷ x ∷ []) (gap (most_in m (pos n) d d x i)) (search reads depth 90) tt;
      below = le_by (ratio (pos n) (suc d) ∷ x ∷ []) (gap low) (search reads depth 90) tt;
    }

-- ---- the orbit
sine_of_epoch : (consts : Consts Plain) (k : ConstRecord) → IsHeldConsts plain_covers plain_extent true consts middle k reach_consts → Inside turn_range k.sin_m0
unfolding turned
sine_of_epoch consts k held = (held.sin_m0.known tt tt).inside

module _ (set : SetRecord) (pi x : ℚ) (k : ConstRecord) (m : MeanRecord) (s : SecularRecord) (consts : Consts Plain) (is_pi : IsPi pi) (near_earth : IsNearEarth set) (constants : IsConsts set pi k)
    (held : IsHeldConsts plain_covers plain_extent true consts middle k reach_consts) (week : WeekInside x) (mean : IsMeanUnguarded k (unit_minutes 1 *ℚ x) s pi m) where
  loss_near : IsNear (ratio (pos 7) 10000) s.tempe zero_ℚ
  loss_near =
      subst (λ z. IsNear (ratio (pos 7) 10000) z zero_ℚ) (loss_is k.bstar k.c4 k.c5 k.sin_m0 s.of_mm.sine x ∙ sym mean.factors.tempe_is)
      (loss_small k.bstar (unit_minutes 1 *ℚ k.c4) k.c5 s.of_mm.sine k.sin_m0 x (held.bstar.known tt tt).inside (held.c4.known tt tt).inside (held.c5.known tt tt).inside
      (turn_inside s.of_mm.sine (sine_pairs_are_bounded pi s.mm s.of_mm.sine s.of_mm.cosine is_pi mean.factors.mm_pair).0) (sine_of_epoch consts k held) week)

  e_low : zero_ℚ ≤ℚ k.e
  e_low = le_trans (le_by [] (known 0 1) (search reads depth 90) tt) (least_in (pos 0) (pos 2) 9 9 k.e (held.e.known tt tt).inside)

  e_high : k.e ≤ℚ ratio (pos 1) 5
  e_high = le_trans (most_in (pos 0) (pos 2) 9 9 k.e (held.e.known tt tt).inside) (le_by [] (known 0 1) (search reads depth 90) tt)

  factor : Inside (between (pos 998) 1000 (pos 1002) 1000) s.tempa
  factor =
      subst (Inside (between (pos 998) 1000 (pos 1002) 1000)) (factor_is k.c1 k.d2 k.d3 k.d4 x ∙ sym mean.factors.tempa_is)
      (factor_inside _ _ _ _ x (held.c1.known tt tt).inside (held.d2.known tt tt).inside (held.d3.known tt tt).inside (held.d4.known tt tt).inside week)

  em : (least_ecc ≤ℚ m.em) × (m.em ≤ℚ k.e +ℚ ratio (pos 7) 10000)
  em = raised k.e s.tempe s.ecc m.em e_low loss_near mean.elements.ecc_is mean.elements.em_is mean.elements.em_is_else

  pub eccentricity_guarded : IsEccentricityGuarded s.ecc
  eccentricity_guarded = guarded k.e s.tempe s.ecc e_low e_high loss_near mean.elements.ecc_is

  pub axis_above : ratio (pos 10470) 10000 ≤ℚ k.a
  axis_above = least_in (pos 10470) (pos 19214) 9999 9999 k.a (held.a.known tt tt).inside

  pub near_orbit : IsNearOrbit k m s.tempa
  near_orbit = record {
    perigee = subst (λ k. ratio (pos 10470) 10000 ≤ℚ k.a *ℚ (one_ℚ -ℚ k.e)) (sym constants.kept) (perigee_of_kept set pi constants.quantities is_pi near_earth constants.initialised);
    axis = most_in (pos 10470) (pos 19214) 9999 9999 k.a (held.a.known tt tt).inside;
    least = e_low;
    most = e_high;
    am_is = mean.elements.am_is;
    factor_low = least_in (pos 998) (pos 1002) 999 999 s.tempa factor;
    factor_high = most_in (pos 998) (pos 1002) 999 999 s.tempa factor;
    em_low = le_by (m.em ∷ []) (gap em.0 ⊕ known 1 1000000) (search reads depth 90) tt;
    em_high = em.1;
    cosine = near_in (negsuc 100000) 100001 99999 k.c (ring [] (search reads depth 90) tt) (held.c.known tt tt).inside;
    con41_low = least_in (negsuc 1000) (pos 2001) 999 999 k.con41 (held.con41.known tt tt).inside;
    con41_high = most_in (negsuc 1000) (pos 2001) 999 999 k.con41 (held.con41.known tt tt).inside;
    aycof = near_in (negsuc 1172) 1173 999999 k.aycof (ring [] (search reads depth 90) tt) (held.aycof.known tt tt).inside;
  }

  pub bend_small : Inside (between (negsuc 85) 10000 (pos 86) 10000) (k.xmcof *ℚ k.eta)
  bend_small =
      bend_inside set pi k constants near_orbit.perigee e_low (le_trans (le_by [] (known 1047 1000) (search reads depth 90) tt) axis_above)
      (near_in (negsuc 0) 1 999 k.bstar (ring [] (search reads depth 90) tt) (held.bstar.known tt tt).inside)
