-- A position exists: Kepler's equation has a root, no divisor is 0, the square root has an argument that allows it, and
-- each other line is an equation.
use Rattle.std.proofs.Common.{refl}
use Rattle.exact.specs.Rational.{ℚ, ◌+ℚ◌, ◌-ℚ◌, ◌*ℚ◌, ◌^ℚ◌, abs_ℚ, zero_ℚ, one_ℚ, ◌≤ℚ◌, ◌<ℚ◌}
use Rattle.exact.proofs.Order.{le_of_not_negative}
use Rattle.exact.proofs.Strict.{Positive, positive_product, positive_weak, not_zero}
use Rattle.sgp4_model.specs.Angle.{IsPi, IsNear, IsSinCos, Pair, part}
use Rattle.sgp4_model.specs.Kepler.{SolvesKepler}
use Rattle.sgp4_model.specs.Numerals.{IsDivisor}
use Rattle.sgp4_model.specs.OrbitRecords.{ConstRecord, MeanRecord}
use Rattle.sgp4_model.specs.Position.{PeriodicRecord, IsPositionUnguarded}
use Rattle.sgp4_model.specs.Root.{IsSqrt}
use Rattle.sgp4_model.specs.SolutionLaws.{PositionExists}
use Rattle.sgp4_model.specs.Vector.{Vector}
use Rattle.sgp4_model.proofs.KeplerExists.{kepler_root_exists}
use Rattle.sgp4_model.proofs.MeanExists.{pair_exists}
use Rattle.sgp4_model.proofs.PositionLines.{ax, ay, u, el, pl, rl, du, xnode, xinc, periodic_record, vector}
use Rattle.sgp4_model.proofs.Pythagoras.{sine_pairs_are_bounded}
use Rattle.sgp4_model.proofs.RootExists.{square_root_exists}
use Rattle.sgp4_model.proofs.VectorBounds.{sum_below_one, length_below_one, product_below_one, positive_number, positive_factor, positive_above_one}

-- from the pairs of the argument of perigee and of Kepler's root, and the square root
module _ (k : ConstRecord) (m : MeanRecord) (of_wm of_root : Pair) (b : ℚ) where
  -- what the quantities are made of, and the signs for which no divisor is 0
  record IsGrounded (pi root : ℚ) : Type 0 where
    wm_pair : IsSinCos pi m.wm of_wm.sine of_wm.cosine
    am_divides : IsDivisor (m.am *ℚ (one_ℚ -ℚ m.em ^ℚ 2))
    below_one : abs_ℚ (ax k m of_wm) +ℚ abs_ℚ (ay k m of_wm) <ℚ one_ℚ
    kepler : SolvesKepler pi (u k m of_wm) (ax k m of_wm) (ay k m of_wm) root of_root
    rectum : zero_ℚ <ℚ pl k m of_wm of_root b
    distance : Positive (rl k m of_wm of_root b)
    flat : IsSqrt (one_ℚ -ℚ el k m of_wm of_root b) b

  -- with pairs of the last three angles they give a position
  position_of : {pi root : ℚ} → IsGrounded pi root → (of_du of_xnode of_xinc : Pair) →
      IsSinCos pi (du k m of_wm of_root b) of_du.sine of_du.cosine →
      IsSinCos pi (xnode k m of_wm of_root b) of_xnode.sine of_xnode.cosine →
      IsSinCos pi (xinc k m of_wm of_root b) of_xinc.sine of_xinc.cosine →
      IsPositionUnguarded k m (periodic_record k m of_wm of_root b of_du of_xnode of_xinc) pi root (vector k m of_wm of_root b of_du of_xnode of_xinc)
  position_of g of_du of_xnode of_xinc by_du by_xnode by_xinc = record {
    long_period = record { wm_pair = g.wm_pair; ax_is = refl; am_divides = g.am_divides; v_is = refl; ay_is = refl; u_is = refl; guarded = g.below_one };
    kepler = g.kepler;
    preliminaries = record { ec_is = refl; es_is = refl; el_is = refl; pl_is = refl; guarded = g.rectum; rl_is = refl; b_is = g.flat };
    argument_of_latitude =
        record {
          rl_divides = not_zero g.distance;
          b_divides = not_zero (positive_above_one g.flat.root);
          su_is = refl;
          cu_is = refl;
          s2_is = refl;
          c2_is = refl;
          pl_divides = not_zero (positive_number g.rectum);
          k1_is = refl;
          k2_is = refl;
        };
    short_period = record { mrt_is = refl; du_is = refl; xnode_is = refl; xinc_is = refl };
    corrected_latitude = record { du_pair = by_du; sw_is = refl; cw_is = refl };
    vector = record { xnode_pair = by_xnode; xinc_pair = by_xinc; x_is = refl; y_is = refl; z_is = refl };
  }

  -- and such pairs exist
  position_exists_at : {pi : ℚ} (root : ℚ) → IsPi pi → IsGrounded pi root → (found : ℚ) × ((q : PeriodicRecord) × ((r : Vector) × IsPositionUnguarded k m q pi found r))
  position_exists_at {pi} root h g =
      let by_du = pair_exists pi (du k m of_wm of_root b) h in
      let by_xnode = pair_exists pi (xnode k m of_wm of_root b) h in
      let by_xinc = pair_exists pi (xinc k m of_wm of_root b) h in (
        root,
        (
          periodic_record k m of_wm of_root b by_du.0 by_xnode.0 by_xinc.0,
          (vector k m of_wm of_root b by_du.0 by_xnode.0 by_xinc.0, position_of g by_du.0 by_xnode.0 by_xinc.0 by_du.1 by_xnode.1 by_xinc.1),
        ),
      )

-- the signs follow from the bounds of the eccentricity vector and the semilatus rectum
grounded : (k : ConstRecord) (m : MeanRecord) (pi root b : ℚ) (of_wm of_root : Pair) → IsPi pi → IsDivisor (m.am *ℚ (one_ℚ -ℚ m.em ^ℚ 2)) →
    IsSinCos pi m.wm of_wm.sine of_wm.cosine → abs_ℚ (ax k m of_wm) +ℚ abs_ℚ (ay k m of_wm) ≤ℚ one_ℚ -ℚ part 48 →
    zero_ℚ <ℚ pl k m of_wm of_root b → SolvesKepler pi (u k m of_wm) (ax k m of_wm) (ay k m of_wm) root of_root →
    IsSqrt (one_ℚ -ℚ el k m of_wm of_root b) b → IsGrounded k m of_wm of_root b pi root
grounded k m pi root b of_wm of_root h divides by_wm small rectum kepler flat = record {
  wm_pair = by_wm;
  am_divides = divides;
  below_one = sum_below_one (ax k m of_wm) (ay k m of_wm) small;
  kepler = kepler;
  rectum = rectum;
  distance = positive_product axis (product_below_one (ax k m of_wm) (ay k m of_wm) of_root.sine of_root.cosine small bounded.0 bounded.1);
  flat = flat;
}
  where
    axis : Positive m.am
    axis = positive_factor (positive_number rectum) (length_below_one (ax k m of_wm) (ay k m of_wm) small)

    bounded : IsNear (part 60 +ℚ one_ℚ) of_root.sine zero_ℚ × IsNear (part 60 +ℚ one_ℚ) of_root.cosine zero_ℚ
    bounded = sine_pairs_are_bounded pi root of_root.sine of_root.cosine h kepler.pair

-- a position exists
pub position_exists : PositionExists
position_exists k m pi h divides bounds =
    let turn = pair_exists pi m.wm h in
    let limits = bounds turn.0 (ax k m turn.0) (ay k m turn.0) turn.1 refl refl in
    let root = kepler_root_exists pi (u k m turn.0) (ax k m turn.0) (ay k m turn.0) h (sum_below_one (ax k m turn.0) (ay k m turn.0) limits.0) in
    let flat = square_root_exists (one_ℚ -ℚ (ax k m turn.0 ^ℚ 2 +ℚ ay k m turn.0 ^ℚ 2)) (le_of_not_negative (positive_weak (length_below_one (ax k m turn.0) (ay k m turn.0) limits.0))) in
    position_exists_at k m turn.0 root.1.0 flat.0 root.0 h
    (grounded k m pi root.0 flat.0 turn.0 root.1.0 h divides turn.1 limits.0 limits.1 root.1.1 flat.1)
