-- Constants of the World Geodetic System 1972, as SGP4 is published with them (Spacetrack Report No. 3, 1980, with the
-- value of ke printed there; AIAA 2006-6753, appendix). Lengths are in Earth radii and times in minutes if not said else.
use Rattle.exact.specs.Rational.{ℚ, neg_ℚ}
use Rattle.sgp4_model.specs.Numerals.{whole, decimal}

-- the square root of the Earth's gravitational parameter: 0.0743669161, Earth radii to the power 3/2 per minute
abbrev pub ke : ℚ
ke = decimal 743669161 10

-- the Earth's equatorial radius: 6378.135 km
abbrev pub earth_radius_km : ℚ
earth_radius_km = decimal 6378135 3

-- the second zonal harmonic: 0.001082616
abbrev pub j2 : ℚ
j2 = decimal 1082616 9

-- the third zonal harmonic: -0.00000253881
abbrev pub j3 : ℚ
j3 = neg_ℚ (decimal 253881 11)

-- the fourth zonal harmonic: -0.00000165597
abbrev pub j4 : ℚ
j4 = neg_ℚ (decimal 165597 11)

-- the upper parameter of the density function, q: 120 km
abbrev pub density_top_km : ℚ
density_top_km = whole 120

-- the lower parameter of the density function, s: 78 km
abbrev pub density_base_km : ℚ
density_base_km = whole 78
