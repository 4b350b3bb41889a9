-- Bounds of a coordinate in millimetres.
use Rattle.std.specs.Prelude.{ℤ}
use Rattle.exact.specs.Rational.{ℚ, ◌*ℚ◌, of_int, ◌≤ℚ◌}
use Rattle.sgp4_model.specs.Numerals.{whole}
use Rattle.sgp4_model.specs.Wgs72.{earth_radius_km}

-- so many Earth radii in millimetres
abbrev pub in_millimetres : ℚ → ℚ
in_millimetres x = x *ℚ earth_radius_km *ℚ whole 1000000

-- so many Earth radii lie between two whole numbers of millimetres
pub record IsBetween (low high : ℤ) (x : ℚ) : Type 0 where
  pub low_end : of_int low ≤ℚ in_millimetres x
  pub high_end : in_millimetres x ≤ℚ of_int high
