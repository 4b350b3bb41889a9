-- What numerals say of the given numbers of the equations, and of what an element set gives them.
use Rattle.std.specs.Prelude.{ℕ, pos, ◌^◌}
use Rattle.fixed_iv.specs.Reach.{Reach, from_to}

-- of a number that is given by a ratio
abbrev pub nearly : ℕ → ℕ → Reach
nearly num den = from_to (pos num) (pos num) den 1

-- of three quarters of the second zonal harmonic
abbrev pub three_quarters_j2 : Reach
three_quarters_j2 = nearly 811962 (10 ^ 9)

-- of the Earth's equatorial radius in kilometres
abbrev pub radius_km : Reach
radius_km = nearly 6378135 1000

-- of an eccentricity of at most 0.2
abbrev pub given_eccentricity : Reach
given_eccentricity = from_to (pos 0) (pos 2) 10 1

-- of an inclination of at most 175 degrees, in radians
abbrev pub given_inclination : Reach
given_inclination = from_to (pos 0) (pos 306) 100 8

-- of a mean motion from 6.3 to 17 revolutions a day, in radians per 16,384 minutes
abbrev pub given_motion : Reach
given_motion = from_to (pos 4503) (pos 12154) 10 400

-- of ke over it, in Earth radii to the power 3/2
abbrev pub given_axis : Reach
given_axis = from_to (pos 10025) (pos 27054) 10000 4
