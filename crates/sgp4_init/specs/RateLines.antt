-- The lines of the secular rates, each in any arithmetic (Spacetrack Report No. 3, 1980, SGP4; AIAA 2006-6753,
-- appendix). Here ip2 is 1 / p^2, and c2 is the square of the cosine of the inclination.
use Rattle.std.specs.Prelude.{ℕ, ℤ, negsuc, pos}
use Rattle.fixed_iv.specs.Arithmetic.{Arithmetic}
use Rattle.sgp4_init.specs.Ratios.{ratio as ratio_in, whole as whole_in}

module _ (N : Arithmetic) where
  open N use {Number, ◌+◌, ◌-◌, ◌*◌}

  abbrev ratio : ℤ → ℕ → Number
  ratio = ratio_in N

  abbrev whole : ℕ → Number
  whole = whole_in N

  -- 1 over p^2
  abbrev pub inverse_square : (p : Number) → Number × Number
  inverse_square p = (whole 1, p * p)

  -- w1: 1.5 J2 n0 / p^2
  abbrev pub first_factor : (n0 ip2 : Number) → Number
  first_factor n0 ip2 = ratio (pos 1623924) 1000000000 * n0 * ip2

  -- w2: 0.5 w1 J2 / p^2
  abbrev pub second_factor : (w1 ip2 : Number) → Number
  second_factor w1 ip2 = ratio (pos 541308) 1000000000 * w1 * ip2

  -- w3: -0.46875 J4 n0 / p^4
  abbrev pub third_factor : (n0 ip2 : Number) → Number
  third_factor n0 ip2 = ratio (pos 2483955) 3200000000000 * n0 * ip2 * ip2

  -- a polynomial in c^2
  abbrev pub in_squares : (constant square fourth c2 : Number) → Number
  in_squares constant square fourth c2 = constant - square * c2 + fourth * (c2 * c2)

  -- the rate of the mean anomaly: n0 + 0.5 w1 b0 (3 c^2 - 1) + 0.0625 w2 b0 times its polynomial
  abbrev pub mean_anomaly_rate : (n0 w1 w2 b0 con41 shape : Number) → Number
  mean_anomaly_rate n0 w1 w2 b0 con41 shape =
      n0 + ratio (pos 1) 2 * w1 * b0 * con41 + ratio (pos 1) 16 * w2 * b0 * shape

  -- the rate of the perigee: -0.5 w1 (1 - 5 c^2) + 0.0625 w2 and w3, each times its polynomial
  abbrev pub perigee_rate : (w1 w2 w3 con42 second third : Number) → Number
  perigee_rate w1 w2 w3 con42 second third =
      ratio (negsuc 0) 2 * w1 * con42 + ratio (pos 1) 16 * w2 * second + w3 * third

  -- the rate of the node: (0.5 w2 (4 - 19 c^2) + 2 w3 (3 - 7 c^2)) c - w1 c
  abbrev pub node_rate : (w1 w2 w3 c c2 : Number) → Number
  node_rate w1 w2 w3 c c2 =
      (ratio (pos 1) 2 * w2 * (whole 4 - whole 19 * c2) + (w3 + w3) * (whole 3 - whole 7 * c2)) * c - w1 * c
