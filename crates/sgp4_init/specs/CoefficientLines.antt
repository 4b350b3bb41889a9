-- The lines of the remaining coefficients, each in any arithmetic (Spacetrack Report No. 3, 1980, SGP4; AIAA 2006-6753,
-- appendix).
use Rattle.std.specs.Prelude.{ℕ, ℤ, negsuc, pos}
use Rattle.fixed_iv.specs.Arithmetic.{Arithmetic}
use Rattle.sgp4_init.specs.DensityLines.{in_scale}
use Rattle.sgp4_init.specs.Ratios.{ratio as ratio_in, whole as whole_in}

module _ (N : Arithmetic) where
  open N use {Number, ◌+◌, ◌*◌}

  abbrev ratio : ℤ → ℕ → Number
  ratio = ratio_in N

  abbrev whole : ℕ → Number
  whole = whole_in N

  -- in C3: coef xi n0 sin i
  abbrev pub along_perigee : (coef xi n0 si : Number) → Number
  along_perigee coef xi n0 si = coef * xi * (n0 * si)

  -- C3 times B*: that times -2 B* J3 / J2, over the eccentricity
  abbrev pub perigee_drag : (along factor e : Number) → Number × Number
  perigee_drag along factor e = (along * factor, e)

  -- in xmcof: -2/3 of q less s, over the semimajor axis
  abbrev pub axis_share : (a : Number) → Number × Number
  axis_share a = (ratio (negsuc 27999) 6378135, a)

  -- xmcof: that times ((q - s) xi)^3 B* / e, over the eccentricity
  abbrev pub anomaly_drag : (share xi factor e : Number) → Number × Number
  anomaly_drag share xi factor e = (share * (in_scale N xi * in_scale N xi * in_scale N xi) * factor, e)

  -- nodecf: -3.5 (1 - e^2) w1 c C1
  abbrev pub node_drag : (bb w1 c c1 : Number) → Number
  node_drag bb w1 c c1 = ratio (negsuc 6) 2 * bb * (w1 * c) * c1

  -- t2cof: 1.5 C1
  abbrev pub longitude_square : (c1 : Number) → Number
  longitude_square c1 = ratio (pos 3) 2 * c1

  -- xlcof: -0.25 J3 / J2 (3 + 5 c) sin i / (1 + c)
  abbrev pub longitude_bend : (c tangent : Number) → Number
  longitude_bend c tangent = ratio (pos 253881) 433046400 * (whole 3 + whole 5 * c) * tangent

  -- aycof: -0.5 J3 / J2 sin i
  abbrev pub eccentricity_bend : (si : Number) → Number
  eccentricity_bend si = ratio (pos 253881) 216523200 * si

  -- 1 + eta cos M
  abbrev pub wave : (eta cosine : Number) → Number
  wave eta cosine = whole 1 + eta * cosine

  -- delmo: its cube
  abbrev pub anomaly_cube : (eta cosine : Number) → Number
  anomaly_cube eta cosine = wave eta cosine * wave eta cosine * wave eta cosine
