-- Plain records that the orbit equations hand on: the constants of an element set, and the mean elements at a time.
use Rattle.exact.specs.Rational.{ℚ}

-- The constants of an element set. The inclination i with its cosine c and sine si, the eccentricity e, the argument of
-- perigee w0, the node o0, the mean anomaly m0 with its sine, the drag term, the recovered mean motion n0 and semimajor
-- axis a, the secular rates, and the coefficients of drag and of the long-period corrections. Angles are in radians,
-- lengths in Earth radii, times in minutes.
pub record ConstRecord : Type 0 where
  pub i : ℚ
  pub c : ℚ
  pub si : ℚ
  pub e : ℚ
  pub w0 : ℚ
  pub o0 : ℚ
  pub m0 : ℚ
  pub bstar : ℚ
  pub a : ℚ
  pub eta : ℚ
  pub con41 : ℚ
  pub c5 : ℚ
  pub xmcof : ℚ
  pub xlcof : ℚ
  pub aycof : ℚ
  pub delmo : ℚ
  pub sin_m0 : ℚ
  pub n0 : ℚ
  pub mdot : ℚ
  pub wdot : ℚ
  pub odot : ℚ
  pub c1 : ℚ
  pub c4 : ℚ
  pub omgcof : ℚ
  pub t2cof : ℚ
  pub d2 : ℚ
  pub nodecf : ℚ
  pub t3cof : ℚ
  pub d3 : ℚ
  pub t4cof : ℚ
  pub d4 : ℚ
  pub t5cof : ℚ

-- the mean elements at a time: semimajor axis am, eccentricity em, mean anomaly ml, argument of perigee wm and node om
pub record MeanRecord : Type 0 where
  pub am : ℚ
  pub em : ℚ
  pub ml : ℚ
  pub wm : ℚ
  pub om : ℚ
