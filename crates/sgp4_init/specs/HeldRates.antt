-- What numerals say of the enclosed rates.
use Rattle.std.specs.Prelude.{ℕ}
use Rattle.exact.specs.Rational.{◌*ℚ◌}
use Rattle.fixed_iv.specs.Arithmetic.{numerals}
use Rattle.fixed_iv.specs.Follows.{Encloses}
use Rattle.fixed_iv.specs.Place.{Place}
use Rattle.fixed_iv.specs.Reach.{Reach, ◌*ᴿ◌, ◌/ᴿ◌}
use Rattle.fixed_iv.specs.declared.enc.Enc.{Ghosts}
use Rattle.sgp4_model.specs.MeanMotion.{MotionRecord}
use Rattle.sgp4_model.specs.Rates.{IsMeanAnomalyRate, IsNodeRate, IsOblatenessFactors, IsPerigeeRate, RatesRecord}
use Rattle.sgp4_shape.specs.Covering.{unit_minutes}
use Rattle.sgp4_motion.specs.HeldMotion.{IsHeldMotion, MotionReach}
use Rattle.sgp4_motion.specs.declared.recovered.Recovered.{Recovered}
use Rattle.sgp4_init.specs.RateLines.{first_factor, in_squares, inverse_square, mean_anomaly_rate, node_rate, perigee_rate, second_factor, third_factor}
use Rattle.sgp4_init.specs.Ratios.{whole}
use Rattle.sgp4_init.specs.declared.rates.Rates.{Rates}

-- numerals for the first common factor and for each rate
pub record RatesReach : Type 0 where
  pub w1 : Reach
  pub mdot : Reach
  pub wdot : Reach
  pub odot : Reach

-- each is covered at the place per 16,384 minutes, and its enclosure is as its numerals say
pub record IsHeldRates {A : Type 0} (E : Ghosts A) (rates : Rates A) (h : Place) (f : RatesRecord) (r : RatesReach) : Type 0 where
  pub w1 : Encloses E rates.w1 h (unit_minutes 1 *ℚ f.w1) r.w1
  pub mdot : Encloses E rates.mdot h (unit_minutes 1 *ℚ f.mdot) r.mdot
  pub wdot : Encloses E rates.wdot h (unit_minutes 1 *ℚ f.wdot) r.wdot
  pub odot : Encloses E rates.odot h (unit_minutes 1 *ℚ f.odot) r.odot

module _ (r : MotionReach) where
  abbrev pub reach_ip2 : Reach
  reach_ip2 = (inverse_square numerals r.p).0 /ᴿ (inverse_square numerals r.p).1

  abbrev pub reach_w1 : Reach
  reach_w1 = first_factor numerals r.n0 reach_ip2

  abbrev pub reach_w2 : Reach
  reach_w2 = second_factor numerals reach_w1 reach_ip2

  abbrev pub reach_w3 : Reach
  reach_w3 = third_factor numerals r.n0 reach_ip2

  abbrev pub reach_c2 : Reach
  reach_c2 = r.c *ᴿ r.c

  -- of a polynomial in the square of the cosine of the inclination, with these coefficients
  abbrev pub reach_polynomial : ℕ → ℕ → ℕ → Reach
  reach_polynomial constant square fourth = in_squares numerals (whole numerals constant) (whole numerals square) (whole numerals fourth) reach_c2

  -- the rates
  abbrev pub reach_rates : RatesReach
  reach_rates = record {
    w1 = reach_w1;
    mdot = mean_anomaly_rate numerals r.n0 reach_w1 reach_w2 r.b0 r.con41 (reach_polynomial 13 78 137);
    wdot = perigee_rate numerals reach_w1 reach_w2 reach_w3 r.con42 (reach_polynomial 7 114 395) (reach_polynomial 3 36 49);
    odot = node_rate numerals reach_w1 reach_w2 reach_w3 r.c reach_c2;
  }

-- the enclosures hold the rates of a recovered motion
pub record HoldsRates {A : Type 0} (E : Ghosts A) (motion : Recovered A) (rates : Rates A) : Type 0 where
  pub gives : (h : Place) (m : MotionRecord) (f : RatesRecord) (r : MotionReach) →
      IsOblatenessFactors m f → IsMeanAnomalyRate m f → IsPerigeeRate m f → IsNodeRate m f →
      IsHeldMotion E motion h m r → IsHeldRates E rates h f (reach_rates r)
