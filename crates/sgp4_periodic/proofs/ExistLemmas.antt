-- The ellipse exists; and what bounds that meet the guards say of the numbers that they hold.
use Rattle.std.proofs.Common.{◌≡◌, arith, refl, [], ◌∷◌, ◌+◌, ◌^◌, ◌<◌, ◌≤◌, inl, inr, ℕ, pos, ◌≤ℤ◌}
use Rattle.std.proofs.lemmas.Int.{ints, by_lt_z}
use Rattle.exact.specs.Rational.{ℚ, of_int, ratio, abs_ℚ, one_ℚ, zero_ℚ, ◌+ℚ◌, ◌-ℚ◌, ◌*ℚ◌, ◌/ℚ◌, ◌^ℚ◌, ◌≤ℚ◌, ◌<ℚ◌}
use Rattle.exact.proofs.Bounds.{abs_le}
use Rattle.exact.proofs.Integers.{of_int_is, of_int_le}
use Rattle.exact.proofs.Order.{gap, known, le_by, le_trans, ◌⊕◌, ◌⊗◌}
use Rattle.exact.proofs.RationalRing.{reads}
use Rattle.exact.proofs.Strict.{lt_by, positive_known, positive_sum}
use Rattle.sgp4_model.specs.Angle.{IsNear, IsSinCos, Pair, part}
use Rattle.sgp4_model.specs.Numerals.{IsDivisor}
use Rattle.sgp4_model.specs.OrbitRecords.{ConstRecord, MeanRecord}
use Rattle.sgp4_model.specs.Position.{PeriodicRecord, least_distance}
use Rattle.fixed_iv.specs.Ends.{in_units, no_low, no_high}
use Rattle.fixed_iv.specs.Extent.{size}
use Rattle.fixed_iv.specs.Holds.{Holds, IsBounded}
use Rattle.fixed_iv.specs.declared.iv.Iv.{Iv}
use Rattle.kepler_enc.specs.Point.{at}
use Rattle.kepler_enc.specs.Guard.{IsUnguarded}
use Rattle.kepler_enc.proofs.SizeLemmas.{near_size, sizes_add}
use Rattle.sgp4_periodic.specs.Ellipse.{IsEllipse}
use Rattle.sgp4_periodic.specs.Guards.{AreDistant, LieAbove0}
use Rattle.sgp4_periodic.proofs.GuardLemmas.{not_below_1, distant_below}

-- ---- the quantities before Kepler's equation; those after it are 0
module _ (k : ConstRecord) (m : MeanRecord) (turn : Pair) (ax ay : ℚ) where
  abbrev inverse_rectum : ℚ
  inverse_rectum = one_ℚ /ℚ (m.am *ℚ (one_ℚ -ℚ m.em ^ℚ 2))

  abbrev square : ℚ
  square = ax ^ℚ 2 +ℚ ay ^ℚ 2

  abbrev pub before_root : PeriodicRecord
  before_root = record {
    of_wm = turn;
    ax = ax;
    v = inverse_rectum;
    ay = ay;
    u = m.ml +ℚ m.wm +ℚ inverse_rectum *ℚ k.xlcof *ℚ ax;
    of_root = turn;
    ec = zero_ℚ;
    es = zero_ℚ;
    el = square;
    pl = m.am *ℚ (one_ℚ -ℚ square);
    rl = zero_ℚ;
    b = zero_ℚ;
    su = zero_ℚ;
    cu = zero_ℚ;
    s2 = zero_ℚ;
    c2 = zero_ℚ;
    k1 = zero_ℚ;
    k2 = zero_ℚ;
    mrt = zero_ℚ;
    du = zero_ℚ;
    xnode = zero_ℚ;
    xinc = zero_ℚ;
    of_du = turn;
    sw = zero_ℚ;
    cw = zero_ℚ;
    of_xnode = turn;
    of_xinc = turn;
  }

  pub is_ellipse : (pi : ℚ) → IsDivisor (m.am *ℚ (one_ℚ -ℚ m.em ^ℚ 2)) → IsSinCos pi m.wm turn.sine turn.cosine → ax ≡ m.em *ℚ turn.cosine →
      ay ≡ m.em *ℚ turn.sine +ℚ one_ℚ /ℚ (m.am *ℚ (one_ℚ -ℚ m.em ^ℚ 2)) *ℚ k.aycof → IsEllipse k m before_root pi
  is_ellipse pi divides pair ax_is ay_is = record {
    wm_pair = pair;
    ax_is = ax_is;
    am_divides = divides;
    v_is = refl;
    ay_is = ay_is;
    u_is = refl;
    el_is = refl;
    pl_is = refl;
  }

-- ---- an eccentricity vector within guarded bounds
bounded : (v : Iv) → ((¬ IsBounded v) → ⊥) → IsBounded v
bounded v f = record {
  low = by_lt_z no_low v.lo (λ p. p) (λ p. absurd (f (λ b. omega (arith, ints, p, b.low))));
  high = by_lt_z v.hi no_high (λ p. p) (λ p. absurd (f (λ b. omega (arith, ints, p, b.high))));
}

size_of : {e x : ℚ} → IsNear e x zero_ℚ → abs_ℚ x ≤ℚ e
size_of {e} {x} n = abs_le (le_by (e ∷ x ∷ []) (gap n.below) (search reads depth 90) tt) (le_by (e ∷ x ∷ []) (gap n.above) (search reads depth 90) tt)

below_1 : (n : ℕ) → n < 2 ^ 48 → at (pos n) ≤ℚ one_ℚ -ℚ part 48
unfolding at
below_1 n h = le_by (of_int (pos n) ∷ []) (known 1 281474976710656 ⊗ gap (most n h)) (search reads depth 90) tt
  where
    most : (n : ℕ) → n < 2 ^ 48 → of_int (pos n) ≤ℚ ratio (pos 281474976710655) 1
    most n h = rw (← of_int_is (pos 281474976710655)) (of_int_le (omega (arith, ints, h)))

pub vector_short : (v w : Iv) (ax ay : ℚ) → (IsUnguarded v w → ⊥) → Holds v ax → Holds w ay → abs_ℚ ax +ℚ abs_ℚ ay ≤ℚ one_ℚ -ℚ part 48
vector_short v w ax ay f of_ax of_ay =
    le_trans (le_by (abs_ℚ ax ∷ abs_ℚ ay ∷ at (pos (size v)) ∷ at (pos (size w)) ∷ [])
    (gap (size_of (near_size v ax (bounded v (λ n. f (inl (inl n)))) of_ax)) ⊕ gap (size_of (near_size w ay (bounded w (λ n. f (inl (inr n)))) of_ay))) (search reads depth 90) tt)
    (le_trans (sizes_add (size v) (size w)) (below_1 (size v + size w) (less (size v + size w) (λ h. f (inr h)))))
  where
    less : (n : ℕ) → (2 ^ 48 ≤ n → ⊥) → n < 2 ^ 48
    less n f = by_lt_z (pos n) (pos 281474976710656) (λ p. omega (arith, ints, p)) (λ p. absurd (f (omega (arith, ints, p))))

-- ---- the semilatus rectum and the distance
pub rectum_positive : (v : Iv) (pl : ℚ) → LieAbove0 v → Holds v pl → zero_ℚ <ℚ pl
rectum_positive v pl above held = by_unit pl (le_trans (of_int_le least) (held.low (omega (arith, ints, least))))
  where
    least : pos 1 ≤ℤ v.lo
    least = not_below_1 v.lo above

    by_unit : (pl : ℚ) → of_int (pos 1) ≤ℚ in_units pl → zero_ℚ <ℚ pl
    by_unit pl h =
        let low = rw (of_int_is (pos 1)) at h in
        lt_by (pl ∷ []) (positive_sum (positive_known 0 281474976710656) (known 1 281474976710656 ⊗ gap low)) (search reads depth 90) tt

pub distance_guarded : (v : Iv) (mrt : ℚ) → AreDistant v → Holds v mrt → least_distance ≤ℚ mrt
distance_guarded v mrt above held = by_units mrt (le_trans (of_int_le least) (held.low (omega (arith, ints, least))))
  where
    least : pos 287104476244870 ≤ℤ v.lo
    least = distant_below v.lo above

    by_units : (mrt : ℚ) → of_int (pos 287104476244870) ≤ℚ in_units mrt → least_distance ≤ℚ mrt
    by_units mrt h =
        let low = rw (of_int_is (pos 287104476244870)) at h in
        le_by (mrt ∷ []) (known 1 281474976710656 ⊗ gap low ⊕ known 11 3518437208883200) (search reads depth 90) tt
