-- Constants of the simple form.
use Rattle.exact.specs.Rational.{ℚ, ◌-ℚ◌, ◌*ℚ◌, one_ℚ, ◌<ℚ◌}
use Rattle.sgp4_model.specs.Numerals.{whole}
use Rattle.sgp4_model.specs.OrbitRecords.{ConstRecord}
use Rattle.sgp4_model.specs.Wgs72.{earth_radius_km}

-- the height of the perigee in kilometres: a (1 - e) less an Earth radius
abbrev pub perigee_km : ConstRecord → ℚ
perigee_km k = (k.a *ℚ (one_ℚ -ℚ k.e) -ℚ one_ℚ) *ℚ earth_radius_km

-- the constants are of the simple form: the perigee is under 220 km
abbrev pub IsSimple : ConstRecord → Type 0
IsSimple k = perigee_km k <ℚ whole 220
