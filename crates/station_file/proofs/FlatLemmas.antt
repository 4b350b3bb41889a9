-- The four sectors of a flat mask go round the horizon.
use Rattle.std.proofs.Common.{arith, ℕ, zero, suc, ◌+◌, ◌<◌, ◌≤◌, pos, neg_ℤ, ℤ, ◌≤ℤ◌, ◌<ℤ◌, All}
use Rattle.std.proofs.lemmas.Int.{ints}
use Rattle.exact.specs.Rational.{of_int, ◌+ℚ◌, ◌≤ℚ◌, ◌<ℚ◌}
use Rattle.exact.proofs.Integers.{of_int_add, of_int_le, le_of_int}
use Rattle.decimals.specs.Decimal.{DecimalRecord, value}
use Rattle.decimals.specs.OrderLaws.{lt_of_not_le}
use Rattle.decimals.proofs.UnitsLemmas.{value_whole}
use Rattle.elements.specs.Elements.{IsFromTo}
use Rattle.station_file.specs.declared.sector.Sector.{Sector}
use Rattle.station_file.specs.Masks.{IsAzimuth, Follows, IsMask, degrees, whole, flat_sectors}

lt_of_int : (a b : ℤ) → a <ℤ b → of_int a <ℚ of_int b
lt_of_int a b h = lt_of_not_le _ _ (λ k. let back : b ≤ℤ a = le_of_int k in omega (arith, ints))

whole_azimuth : (n : ℕ) → n < 360 → IsAzimuth (value (whole n))
whole_azimuth n h = rw (value_whole (pos n)) (record { least = of_int_le (omega (arith, ints)); most = lt_of_int (pos n) (pos 360) (omega (arith, ints)) })

near_by_sum : (a b : ℕ) → b ≤ a + 90 → of_int (pos b) ≤ℚ of_int (pos a) +ℚ degrees 90
near_by_sum a b h = rw (← of_int_add (pos a) (pos 90)) (of_int_le (omega (arith, ints)))

whole_follows : (a b : ℕ) → a < b → b ≤ a + 90 → Follows (value (whole a)) (value (whole b))
whole_follows a b h k = rw (value_whole (pos a), value_whole (pos b)) (record { above = lt_of_int (pos a) (pos b) (omega (arith, ints)); near = near_by_sum a b k })

last_follows : Follows (value (whole 270)) (value (whole 0) +ℚ degrees 360)
last_follows =
    rw (value_whole (pos 270), value_whole (pos 0), ← of_int_add (pos 0) (pos 360)) (record { above = lt_of_int (pos 270) (pos 360) (omega (arith, ints)); near = near_by_sum 270 360 (omega arith) })

flat_azimuths : (floor : DecimalRecord) → All (λ (sector : Sector). IsAzimuth (value sector.border)) (flat_sectors floor)
flat_azimuths floor zero d h = whole_azimuth 0 (omega arith)
flat_azimuths floor (suc zero) d h = whole_azimuth 90 (omega arith)
flat_azimuths floor (suc (suc zero)) d h = whole_azimuth 180 (omega arith)
flat_azimuths floor (suc (suc (suc zero))) d h = whole_azimuth 270 (omega arith)
flat_azimuths floor (suc (suc (suc (suc k)))) d h = absurd (omega arith)

flat_floors : (floor : DecimalRecord) → IsFromTo (neg_ℤ (pos 90)) (pos 90) (value floor) → All (λ (sector : Sector). IsFromTo (neg_ℤ (pos 90)) (pos 90) (value sector.floor)) (flat_sectors floor)
flat_floors floor range zero d h = range
flat_floors floor range (suc zero) d h = range
flat_floors floor range (suc (suc zero)) d h = range
flat_floors floor range (suc (suc (suc zero))) d h = range
flat_floors floor range (suc (suc (suc (suc k)))) d h = absurd (omega arith)

-- a flat mask is a mask
pub flat_is_mask : (floor : DecimalRecord) → IsFromTo (neg_ℤ (pos 90)) (pos 90) (value floor) → IsMask (flat_sectors floor)
flat_is_mask floor range = record {
  least = omega arith;
  most = omega arith;
  azimuths = flat_azimuths floor;
  floors = flat_floors floor range;
  round = (whole_follows 0 90 (omega arith) (omega arith), (whole_follows 90 180 (omega arith) (omega arith), (whole_follows 180 270 (omega arith) (omega arith), last_follows)));
}
