-- What a recovered motion says of its set, and why a set is refused.
use Rattle.std.proofs.Common.{◌≡◌, [], ◌∷◌, ◌^◌}
use Rattle.exact.specs.Rational.{ℚ, ◌*ℚ◌, zero_ℚ, ◌≤ℚ◌}
use Rattle.exact.proofs.RationalRing.{reads}
use Rattle.exact.proofs.Order.{le_by, le_refl, gap, known}
use Rattle.exact.proofs.Strict.{Positive, not_zero, positive_known, positive_product}
use Rattle.fixed_iv.specs.Place.{Place}
use Rattle.sgp4_model.specs.Angle.{IsPi, least_pi}
use Rattle.sgp4_model.specs.MeanMotion.{MotionRecord, IsMotionRecovered}
use Rattle.sgp4_model.specs.Numerals.{decimal, whole}
use Rattle.sgp4_model.specs.Records.{SetRecord}
use Rattle.sgp4_model.proofs.MotionExists.{recovered_motion_exists}
use Rattle.sgp4_shape.specs.Covering.{unit_minutes}
use Rattle.sgp4_motion.proofs.InputLemmas.{above_zero}

-- a pi of the bracket
pub some_pi : IsPi least_pi
some_pi = record { low = le_refl _; high = le_by [] (known 1 (10 ^ 36)) (search reads depth 90) tt }

-- a place of the cell
pub some_place : Place
some_place = record { at = zero_ℚ; low = le_by [] (known 1 1) (search reads depth 90) tt; high = le_by [] (known 1 1) (search reads depth 90) tt }

-- the rate per 16,384 minutes is not 0 where the mean motion is not
pub rate_not_zero : {n0 : ℚ} → Positive n0 → ¬ (unit_minutes 1 *ℚ n0 ≡ zero_ℚ)
rate_not_zero p = not_zero (positive_product (positive_known 16383 1) p)

-- a set of these ranges has a recovered motion
pub some_motion : (set : SetRecord) → zero_ℚ ≤ℚ set.ecc → set.ecc ≤ℚ decimal 2 1 → decimal 63 1 ≤ℚ set.motion → set.motion ≤ℚ whole 17 →
    (m : MotionRecord) × IsMotionRecovered set least_pi m
some_motion set low high least most = recovered_motion_exists set least_pi some_pi low (le_by (set.ecc ∷ []) (gap high) (search reads depth 90) tt) (above_zero least) most
