-- The small records.
use Rattle.std.proofs.Common.{refl}
use Rattle.decimals.specs.Decimal.{value}
use Rattle.exact.specs.Rational.{of_int, ratio}
use Rattle.rows_stations.specs.SmallRecords.{SmallRecords}

pub small_records : SmallRecords
unfolding value of_int ratio
small_records = record {
  sector = λ s border floor. rw (border, floor) refl;
  station = λ row s lat lon height mask border floor. rw (lat, lon, height, mask, border, floor) refl;
}
