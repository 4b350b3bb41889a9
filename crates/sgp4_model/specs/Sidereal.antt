-- Greenwich mean sidereal time of 1982 (Aoki et al., Astronomy and Astrophysics 105, 1982), and the rotation by it from the
-- true equator and mean equinox (TEME) to the Earth-fixed frame. It goes by UT1, which differs from UTC by an offset.
use Rattle.std.specs.Prelude.{ℤ, pos, ◌^◌}
use Rattle.exact.specs.Rational.{ℚ, ◌+ℚ◌, ◌-ℚ◌, ◌*ℚ◌, ◌^ℚ◌, neg_ℚ, ratio}
use Rattle.sgp4_model.specs.Angle.{IsSinCos, Pair}
use Rattle.sgp4_model.specs.Vector.{Vector}

-- an instant in seconds, in UT1, where UT1 is so many milliseconds more than UTC
abbrev pub in_ut1 : ℤ → ℚ → ℚ
in_ut1 dut1 at = at +ℚ ratio dut1 1000

-- Julian centuries of 36,525 days, of an instant in seconds from 2000-01-01T12:00:00
abbrev pub centuries : ℚ → ℚ
centuries at = at *ℚ ratio (pos 1) 3155760000

-- seconds of sidereal time at so many centuries:
-- 67310.54841 + (876600 * 3600 + 8640184.812866) T + 0.093104 T^2 - 0.0000062 T^3
unfoldable pub sidereal_seconds : ℚ → ℚ
sidereal_seconds t =
    ratio (pos 6731054841) (10 ^ 5)
    +ℚ (ratio (pos 876600) 1 *ℚ ratio (pos 3600) 1 +ℚ ratio (pos 8640184812866) (10 ^ 6)) *ℚ t
    +ℚ ratio (pos 93104) (10 ^ 6) *ℚ t ^ℚ 2
    -ℚ ratio (pos 62) (10 ^ 7) *ℚ t ^ℚ 3

-- the sidereal angle in radians at an instant of UT1: 43,200 seconds are half a turn
abbrev pub sidereal_angle : ℚ → ℚ → ℚ
sidereal_angle pi at = pi *ℚ sidereal_seconds (centuries at) *ℚ ratio (pos 1) 43200

-- a sine and a cosine of the sidereal angle at an instant, where UT1 is so many milliseconds more than UTC
abbrev pub IsSiderealPair : ℚ → ℚ → ℤ → Pair → Type 0
IsSiderealPair pi at dut1 turn = IsSinCos pi (sidereal_angle pi (in_ut1 dut1 at)) turn.sine turn.cosine

-- the vector in the Earth-fixed frame: (x cos + y sin, - x sin + y cos, z)
abbrev pub earth_fixed : Pair → Vector → Vector
earth_fixed turn v = record {
  x = v.x *ℚ turn.cosine +ℚ v.y *ℚ turn.sine;
  y = neg_ℚ v.x *ℚ turn.sine +ℚ v.y *ℚ turn.cosine;
  z = v.z;
}
