-- The lines of the periodic equations that functions compute, each in any arithmetic (Spacetrack Report No. 3, 1980,
-- SGP4; AIAA 2006-6753, appendix). A quotient stands as its dividend and its divisor.
use Rattle.std.specs.Prelude.{pos, negsuc}
use Rattle.exact.specs.Rational.{ratio as fraction}
use Rattle.fixed_iv.specs.Arithmetic.{Arithmetic}
use Rattle.fixed_iv.specs.Reach.{from_to}

module _ (N : Arithmetic) where
  open N use {Number, ◌+◌, ◌-◌, ◌*◌, whole, ratio, given}

  -- ---- numbers that are enclosed exactly: 1/2, 3/2 and -1/4
  abbrev a_half : Number
  a_half = given (fraction (pos 1) 2) (from_to (pos 1) (pos 1) 2 0)

  abbrev three_halves : Number
  three_halves = given (fraction (pos 3) 2) (from_to (pos 3) (pos 3) 2 0)

  abbrev less_a_quarter : Number
  less_a_quarter = given (fraction (negsuc 0) 4) (from_to (negsuc 0) (negsuc 0) 4 0)

  -- ---- the long-period corrections
  -- one over the semilatus rectum of the mean elements: 1 / (am (1 - em^2))
  abbrev pub inverse_rectum : (am em : Number) → Number × Number
  inverse_rectum am em = (whole 1, am * (whole 1 - em * em))

  -- the second component of the eccentricity vector: em sin omega + v aycof
  abbrev pub second_component : (em sine v aycof : Number) → Number
  second_component em sine v aycof = em * sine + v * aycof

  -- the mean longitude from the node: ml + omega + v xlcof ax
  abbrev pub longitude : (ml wm v xlcof ax : Number) → Number
  longitude ml wm v xlcof ax = ml + wm + v * xlcof * ax

  -- what the square of the eccentricity vector leaves of 1: 1 - (ax^2 + ay^2)
  abbrev pub rest_of_square : (ax ay : Number) → Number
  rest_of_square ax ay = whole 1 - (ax * ax + ay * ay)

  -- ---- the argument of latitude before its correction
  -- the eccentricity times the cosine of the eccentric anomaly: ax cos E + ay sin E
  abbrev pub cosine_part : (ax ay sine cosine : Number) → Number
  cosine_part ax ay sine cosine = ax * cosine + ay * sine

  -- the same with its sine: ax sin E - ay cos E
  abbrev pub sine_part : (ax ay sine cosine : Number) → Number
  sine_part ax ay sine cosine = ax * sine - ay * cosine

  -- es / (1 + b)
  abbrev pub over_one_plus : (es b : Number) → Number × Number
  over_one_plus es b = (es, whole 1 + b)

  -- the sine of the argument of latitude, where `near` is the distance over the semimajor axis
  abbrev pub sine_of_latitude : (sine ax ay f near : Number) → Number × Number
  sine_of_latitude sine ax ay f near = (sine - ay - ax * f, near)

  -- its cosine
  abbrev pub cosine_of_latitude : (cosine ax ay f near : Number) → Number × Number
  cosine_of_latitude cosine ax ay f near = (cosine - ax + ay * f, near)

  -- the sine of twice the argument of latitude: 2 su cu
  abbrev pub sine_of_twice : (su cu : Number) → Number
  sine_of_twice su cu = su * cu + su * cu

  -- its cosine: 1 - 2 su^2
  abbrev pub cosine_of_twice : (su : Number) → Number
  cosine_of_twice su = whole 1 - (su * su + su * su)

  -- ---- the short-period corrections
  -- half of J2 over the semilatus rectum; J2 is that of WGS-72, 0.001082616
  abbrev pub half_j2_over : (pl : Number) → Number × Number
  half_j2_over pl = (ratio (pos 541308) 1000000000, pl)

  -- 1.5 times the coefficient k2
  abbrev pub one_and_a_half : (k2 : Number) → Number
  one_and_a_half k2 = three_halves * k2

  -- the distance, where `k` is 1.5 k2: r (1 - 1.5 k2 b con41) + 0.5 k1 (1 - cos^2 i) cos 2u
  abbrev pub distance : (rl k1 k b con41 c c2 : Number) → Number
  distance rl k1 k b con41 c c2 = rl * (whole 1 - k * b * con41) + a_half * k1 * (whole 1 - c * c) * c2

  -- what is added to the argument of latitude: -0.25 k2 (7 cos^2 i - 1) sin 2u
  abbrev pub latitude_change : (k2 c s2 : Number) → Number
  latitude_change k2 c s2 = less_a_quarter * k2 * (whole 7 * (c * c) - whole 1) * s2

  -- the node: Omega + 1.5 k2 cos i sin 2u
  abbrev pub node : (om k c s2 : Number) → Number
  node om k c s2 = om + k * c * s2

  -- the inclination: i + 1.5 k2 cos i sin i cos 2u
  abbrev pub inclination : (i k c si c2 : Number) → Number
  inclination i k c si c2 = i + k * c * si * c2

  -- ---- to the axes
  -- the sine of a sum, from sines and cosines
  abbrev pub sine_of_sum : (su cu sine cosine : Number) → Number
  sine_of_sum su cu sine cosine = su * cosine + cu * sine

  -- its cosine
  abbrev pub cosine_of_sum : (su cu sine cosine : Number) → Number
  cosine_of_sum su cu sine cosine = cu * cosine - su * sine

  -- along the first axis, from the pair of the node, where `tilted` is the cosine of the inclination times the sine of
  -- the argument of latitude, and `cw` the cosine of that
  abbrev pub first_coordinate : (mrt sine cosine tilted cw : Number) → Number
  first_coordinate mrt sine cosine tilted cw = mrt * (cosine * cw - sine * tilted)

  -- along the second axis
  abbrev pub second_coordinate : (mrt sine cosine tilted cw : Number) → Number
  second_coordinate mrt sine cosine tilted cw = mrt * (cosine * tilted + sine * cw)
