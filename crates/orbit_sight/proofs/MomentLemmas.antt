-- The time of an instant as minutes from the epoch of a set.
use Rattle.std.proofs.Common.{◌≡◌, [], ◌∷◌, ap, ◌∙◌, ℤ, pos, ◌-ℤ◌, neg_ℤ}
use Rattle.exact.specs.Rational.{of_int, ratio, ◌+ℚ◌, ◌-ℚ◌, ◌*ℚ◌}
use Rattle.exact.proofs.RationalRing.{ring, reads}
use Rattle.exact.proofs.Integers.{of_int_add, of_int_neg, ratio_is_product}
use Rattle.sgp4_model.specs.EpochTime.{minutes_since_epoch}
use Rattle.sgp4_model.specs.Records.{SetRecord}
use Rattle.sgp4_model.specs.Time.{instant_of_nanos}
use Rattle.sgp4_shape.specs.Covering.{unit_minutes}
use Rattle.orbit_sight.specs.Moment.{units_from}

pub in_seconds : (z : ℤ) → instant_of_nanos z ≡ of_int z *ℚ ratio (pos 1) 1000000000
in_seconds z = ratio_is_product z 1000000000

pub in_units_of_time : (epoch at : ℤ) → units_from epoch at ≡ (of_int at -ℚ of_int epoch) *ℚ ratio (pos 1) 983040000000000
in_units_of_time epoch at =
    ratio_is_product (at -ℤ epoch) 983040000000000
    ∙ ap (λ x. x *ℚ ratio (pos 1) 983040000000000) (of_int_add at (neg_ℤ epoch) ∙ ap (λ x. of_int at +ℚ x) (of_int_neg epoch))

pub minutes_are : (set : SetRecord) (at : ℤ) → unit_minutes 1 *ℚ units_from set.epoch at ≡ minutes_since_epoch set (instant_of_nanos at)
minutes_are set at =
    rw (in_units_of_time set.epoch at, in_seconds at, in_seconds set.epoch)
    (ring (of_int at ∷ of_int set.epoch ∷ []) {y = (of_int at *ℚ ratio (pos 1) 1000000000 -ℚ of_int set.epoch *ℚ ratio (pos 1) 1000000000) *ℚ ratio (pos 1) 60} (search reads depth 90) tt)
