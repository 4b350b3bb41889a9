-- Secular rates of the angles by the Earth's oblateness (Spacetrack Report No. 3, 1980, SGP4; AIAA 2006-6753, appendix),
-- in radians per minute.
use Rattle.std.specs.Prelude.{◌≡◌}
use Rattle.exact.specs.Rational.{ℚ, ◌+ℚ◌, ◌-ℚ◌, ◌*ℚ◌, ◌/ℚ◌, ◌^ℚ◌, neg_ℚ}
use Rattle.sgp4_model.specs.MeanMotion.{MotionRecord}
use Rattle.sgp4_model.specs.Numerals.{whole, decimal, IsDivisor}
use Rattle.sgp4_model.specs.Wgs72.{j2, j4}

-- three common factors, and the rates of the mean anomaly, the argument of perigee and the node
pub record RatesRecord : Type 0 where
  pub w1 : ℚ
  pub w2 : ℚ
  pub w3 : ℚ
  pub mdot : ℚ
  pub wdot : ℚ
  pub odot : ℚ

module _ (m : MotionRecord) (r : RatesRecord) where
  open m use {c, b0, n0, p, con41, con42}
  open r use {w1, w2, w3, mdot, wdot, odot}

  -- the common factors
  pub record IsOblatenessFactors : Type 0 where
    pub p2_divides : IsDivisor (p ^ℚ 2)
    pub p4_divides : IsDivisor (p ^ℚ 4)
    pub w1_is : w1 ≡ decimal 15 1 *ℚ j2 *ℚ n0 /ℚ p ^ℚ 2
    pub w2_is : w2 ≡ decimal 5 1 *ℚ w1 *ℚ j2 /ℚ p ^ℚ 2
    pub w3_is : w3 ≡ neg_ℚ (decimal 46875 5) *ℚ j4 *ℚ n0 /ℚ p ^ℚ 4

  -- the rate of the mean anomaly
  pub record IsMeanAnomalyRate : Type 0 where
    pub mdot_is :
        mdot ≡
        n0 +ℚ decimal 5 1 *ℚ w1 *ℚ b0 *ℚ con41
        +ℚ decimal 625 4 *ℚ w2 *ℚ b0 *ℚ (whole 13 -ℚ whole 78 *ℚ c ^ℚ 2 +ℚ whole 137 *ℚ c ^ℚ 4)

  -- the rate of the argument of perigee
  pub record IsPerigeeRate : Type 0 where
    pub wdot_is :
        wdot ≡
        neg_ℚ (decimal 5 1) *ℚ w1 *ℚ con42
        +ℚ decimal 625 4 *ℚ w2 *ℚ (whole 7 -ℚ whole 114 *ℚ c ^ℚ 2 +ℚ whole 395 *ℚ c ^ℚ 4)
        +ℚ w3 *ℚ (whole 3 -ℚ whole 36 *ℚ c ^ℚ 2 +ℚ whole 49 *ℚ c ^ℚ 4)

  -- the rate of the node
  pub record IsNodeRate : Type 0 where
    pub odot_is :
        odot ≡
        neg_ℚ w1 *ℚ c
        +ℚ (decimal 5 1 *ℚ w2 *ℚ (whole 4 -ℚ whole 19 *ℚ c ^ℚ 2) +ℚ whole 2 *ℚ w3 *ℚ (whole 3 -ℚ whole 7 *ℚ c ^ℚ 2)) *ℚ c
