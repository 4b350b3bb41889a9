-- The lines of the drag coefficients C1, C4 and C5, each in any arithmetic (Spacetrack Report No. 3, 1980, SGP4;
-- AIAA 2006-6753, appendix). Here et2 is eta^2, eeta is e eta, and xp is xi over psi.
use Rattle.std.specs.Prelude.{ℕ, ℤ, pos}
use Rattle.fixed_iv.specs.Arithmetic.{Arithmetic}
use Rattle.sgp4_init.specs.Ratios.{ratio as ratio_in, whole as whole_in}

module _ (N : Arithmetic) where
  open N use {Number, ◌+◌, ◌-◌, ◌*◌}

  abbrev ratio : ℤ → ℕ → Number
  ratio = ratio_in N

  abbrev whole : ℕ → Number
  whole = whole_in N

  -- in C2: a (1 + 1.5 eta^2 + e eta (4 + eta^2))
  abbrev pub along_orbit : (a et2 eeta : Number) → Number
  along_orbit a et2 eeta = a * (whole 1 + ratio (pos 3) 2 * et2 + eeta * (whole 4 + et2))

  -- in C2: 0.375 J2 xi / psi (3 c^2 - 1) (8 + 3 eta^2 (8 + eta^2))
  abbrev pub by_oblateness : (xp con41 et2 : Number) → Number
  by_oblateness xp con41 et2 =
      ratio (pos 405981) 1000000000 * xp * con41 * (whole 8 + whole 3 * et2 * (whole 8 + et2))

  -- in C4: eta (2 + 0.5 eta^2) + e (0.5 + 2 eta^2)
  abbrev pub by_eccentricity : (eta e et2 : Number) → Number
  by_eccentricity eta e et2 = eta * (whole 2 + ratio (pos 1) 2 * et2) + e * (ratio (pos 1) 2 + et2 + et2)

  -- in C4, what does not turn with the perigee: (3 c^2 - 1) (1 - 2 e eta + eta^2 (1.5 - 0.5 e eta))
  abbrev pub steady_shape : (con41 et2 eeta : Number) → Number
  steady_shape con41 et2 eeta =
      con41 * (whole 1 - (eeta + eeta) + et2 * (ratio (pos 3) 2 - ratio (pos 1) 2 * eeta))

  -- in C4, what turns with twice the argument of perigee: (1 - c^2) (2 eta^2 - e eta (1 + eta^2)) cos 2w
  abbrev pub turning_shape : (c et2 eeta cosine : Number) → Number
  turning_shape c et2 eeta cosine =
      (whole 1 - c * c) * (et2 + et2 - eeta * (whole 1 + et2)) * cosine

  -- in C4: J2 xi / psi, over the semimajor axis
  abbrev pub share_of_j2 : (xp a : Number) → Number × Number
  share_of_j2 xp a = (ratio (pos 1082616) 1000000000 * xp, a)

  -- the bracket in C4: its first part, less that share of 0.75 of the turning shape less 3 of the steady one
  abbrev pub c4_bracket : (first share steady turning : Number) → Number
  c4_bracket first share steady turning = first - share * (ratio (pos 3) 4 * turning - whole 3 * steady)

  -- the bracket in C5: 1 + 2.75 (eta^2 + e eta) + e eta eta^2
  abbrev pub c5_bracket : (et2 eeta : Number) → Number
  c5_bracket et2 eeta = whole 1 + ratio (pos 11) 4 * (et2 + eeta) + eeta * et2
