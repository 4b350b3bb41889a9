-- The sines and cosines of two angles that are at most 1 apart are on slope, up to 2^-54.
use Rattle.std.proofs.Common.{[], ◌∷◌, pos}
use Rattle.exact.specs.Rational.{◌+ℚ◌, ◌*ℚ◌, ratio, one_ℚ, ◌≤ℚ◌}
use Rattle.exact.proofs.RationalRing.{reads}
use Rattle.exact.proofs.Order.{◌⊕◌, gap, le_by, le_refl}
use Rattle.exact.proofs.Intervals.{le_on}
use Rattle.sgp4_model.specs.Angle.{part}
use Rattle.sgp4_model.proofs.Lipschitz.{pair_near_sums}
use Rattle.sgp4_model.specs.Slope.{SinePairsFollowTheirSlope}
use Rattle.sgp4_model.proofs.OnSlope.{IsOnSlope, slope_weaken, near_on_slope}
use Rattle.sgp4_model.proofs.SumsSlope.{sums_slope}

-- the sine's last term, two ties and three tolerances
extra : one_ℚ *ℚ part 63 +ℚ ratio (pos 2) 1 *ℚ part 66 +ℚ ratio (pos 3) 1 *ℚ part 60 ≤ℚ part 58
extra = le_on 0 [] [] tt (search reads depth 90) tt

-- 2^-58 is less than 2^-54
smaller : part 58 ≤ℚ part 54
smaller = le_on 0 [] [] tt (search reads depth 90) tt

-- two pairs, through their sums
pub sine_pairs_follow_their_slope : SinePairsFollowTheirSlope
sine_pairs_follow_their_slope pi x d s c t a g l p q = (both.sine, both.cosine)
  where
    both : IsOnSlope (ratio (pos 1) 2 *ℚ (d *ℚ d) +ℚ part 54) d (record { sine = s; cosine = c }) (record { sine = t; cosine = a })
    both =
        slope_weaken (le_by (d ∷ []) (gap extra ⊕ gap smaller) (search reads depth 90) tt)
        (near_on_slope (sums_slope pi one_ℚ x d p.quarters q.quarters (record {
          is_pi = g;
          first = p.in_range;
          second = q.in_range;
          size = l;
          short = le_refl one_ℚ;
        })) l (pair_near_sums p) (pair_near_sums q))
