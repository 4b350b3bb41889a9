-- What numerals say of the enclosed remaining coefficients.
use Rattle.std.specs.Prelude.{◌≡◌, pos, negsuc}
use Rattle.decimals.specs.Decimal.{value}
use Rattle.elements.specs.Elements.{ElementsRecord}
use Rattle.exact.specs.Rational.{◌*ℚ◌}
use Rattle.exact.specs.Interval.{between}
use Rattle.fixed_iv.specs.Arithmetic.{numerals}
use Rattle.fixed_iv.specs.Follows.{Encloses}
use Rattle.fixed_iv.specs.Place.{Place}
use Rattle.fixed_iv.specs.Reach.{Reach, claimed, turned, ◌+ᴿ◌, ◌*ᴿ◌, ◌/ᴿ◌}
use Rattle.fixed_iv.specs.declared.enc.Enc.{Ghosts}
use Rattle.sgp4_model.specs.Coefficients.{CoefficientRecord, IsRemainingCoefficients}
use Rattle.sgp4_model.specs.Density.{DensityRecord, IsDensityTerms}
use Rattle.sgp4_model.specs.Drag.{DragRecord, IsPerigeeDragCoefficient}
use Rattle.sgp4_model.specs.EpochAngles.{EpochRecord}
use Rattle.sgp4_model.specs.MeanMotion.{MotionRecord, RecoversMotion}
use Rattle.sgp4_model.specs.Rates.{RatesRecord}
use Rattle.sgp4_shape.specs.Covering.{unit_minutes}
use Rattle.sgp4_motion.specs.HeldMotion.{IsHeldMotion, MotionReach}
use Rattle.sgp4_motion.specs.Recovered.{TellsForm}
use Rattle.sgp4_motion.specs.declared.recovered.Recovered.{Recovered}
use Rattle.sgp4_init.specs.CoefficientLines.{along_perigee, anomaly_cube, anomaly_drag, axis_share, eccentricity_bend, longitude_bend, longitude_square, node_drag}
use Rattle.sgp4_init.specs.HeldDensity.{DensityReach, IsHeldDensity}
use Rattle.sgp4_init.specs.HeldEpoch.{IsHeldEpoch}
use Rattle.sgp4_init.specs.Numerals.{given_angle, given_drag_over_eccentricity, given_perigee_drag, of_ratio, or_zero}
use Rattle.sgp4_init.specs.TakenMotion.{IsTakenMotion}
use Rattle.sgp4_init.specs.declared.coefficients.Coefficients.{Coefficients}
use Rattle.sgp4_init.specs.declared.density.Density.{Density}
use Rattle.sgp4_init.specs.declared.epoch.Epoch.{Epoch}

-- numerals for each coefficient
pub record CoefficientReach : Type 0 where
  pub omgcof : Reach
  pub xmcof : Reach
  pub nodecf : Reach
  pub t2cof : Reach
  pub xlcof : Reach
  pub aycof : Reach
  pub delmo : Reach

-- each coefficient is covered at the place in units of 16,384 minutes, and its enclosure is as its numerals say
pub record IsHeldCoefficients {A : Type 0} (E : Ghosts A) (coefficients : Coefficients A) (h : Place) (f : CoefficientRecord) (r : CoefficientReach) : Type 0 where
  pub omgcof : Encloses E coefficients.omgcof h (unit_minutes 1 *ℚ f.omgcof) r.omgcof
  pub xmcof : Encloses E coefficients.xmcof h f.xmcof r.xmcof
  pub nodecf : Encloses E coefficients.nodecf h (unit_minutes 2 *ℚ f.nodecf) r.nodecf
  pub t2cof : Encloses E coefficients.t2cof h (unit_minutes 1 *ℚ f.t2cof) r.t2cof
  pub xlcof : Encloses E coefficients.xlcof h f.xlcof r.xlcof
  pub aycof : Encloses E coefficients.aycof h f.aycof r.aycof
  pub delmo : Encloses E coefficients.delmo h f.delmo r.delmo

module _ (r : MotionReach) (d : DensityReach) where
  -- an eccentricity above 0.0001
  abbrev pub reach_eccentric : Reach
  reach_eccentric = claimed r.e (between (pos 1) 10000 (pos 2000) 10000)

  -- the two terms that are divided by the eccentricity, or 0
  abbrev pub reach_along : Reach
  reach_along = along_perigee numerals d.coef d.xi r.n0 r.si

  abbrev pub reach_omgcof : Reach
  reach_omgcof = or_zero (reach_along *ᴿ given_perigee_drag /ᴿ reach_eccentric *ᴿ turned given_angle)

  abbrev pub reach_axis_share : Reach
  reach_axis_share = (axis_share numerals r.a).0 /ᴿ (axis_share numerals r.a).1

  abbrev pub reach_xmcof : Reach
  reach_xmcof =
      or_zero
      ((anomaly_drag numerals reach_axis_share d.xi given_drag_over_eccentricity reach_eccentric).0
      /ᴿ (anomaly_drag numerals reach_axis_share d.xi given_drag_over_eccentricity reach_eccentric).1)

  -- the tangent of half of the inclination, which is at most 175 degrees
  abbrev pub reach_tangent : Reach
  reach_tangent = claimed (r.si /ᴿ claimed (of_ratio (pos 1) (pos 1) +ᴿ r.c) (between (pos 34) 10000 (pos 20001) 10000)) (between (negsuc 48) 2 (pos 49) 2)

  -- the coefficients, of the numerals of w1 and C1 too
  abbrev pub reach_coefficients : Reach → Reach → CoefficientReach
  reach_coefficients w1 c1 = record {
    omgcof = reach_omgcof;
    xmcof = reach_xmcof;
    nodecf = node_drag numerals r.bb w1 r.c c1;
    t2cof = longitude_square numerals c1;
    xlcof = longitude_bend numerals r.c reach_tangent;
    aycof = eccentricity_bend numerals r.si;
    delmo = anomaly_cube numerals d.eta (turned given_angle);
  }

-- what the coefficients are formed of: of a motion that is taken, in the form that is told, and of the numbers that the set
-- gives
pub record IsCoefficientCase {A : Type 0} (set : ElementsRecord) (motion : Recovered A) (z : EpochRecord) (m : MotionRecord) (d : DensityRecord) (g : DragRecord) (f : RatesRecord) (k : CoefficientRecord) : Type 0 where
  pub bstar : z.bstar ≡ value set.bstar
  pub ecc : m.e ≡ value set.ecc
  pub taken : IsTakenMotion m
  pub recovers : RecoversMotion m
  pub terms : IsDensityTerms m d
  pub of_perigee : IsPerigeeDragCoefficient m d g
  pub remaining : IsRemainingCoefficients z m d g f k
  pub form : TellsForm motion m

-- the two enclosures hold the drag terms of the argument of perigee and of the mean anomaly
pub record HoldsDividedTerms {A : Type 0} (E : Ghosts A) (set : ElementsRecord) (motion : Recovered A) (density : Density A) (cos_w0 : A) (terms : A × A) : Type 0 where
  pub gives : (h : Place) (z : EpochRecord) (m : MotionRecord) (d : DensityRecord) (g : DragRecord) (f : RatesRecord) (k : CoefficientRecord) (r : MotionReach) (s : DensityReach) →
      IsCoefficientCase set motion z m d g f k → IsHeldMotion E motion h m r → IsHeldDensity E density h d s →
      Encloses E cos_w0 h z.of_w0.cosine (turned given_angle) →
      Encloses E terms.0 h (unit_minutes 1 *ℚ k.omgcof) (reach_omgcof r s) × Encloses E terms.1 h k.xmcof (reach_xmcof r s)

-- the enclosures hold the coefficients
pub record HoldsCoefficients {A : Type 0} (E : Ghosts A) (set : ElementsRecord) (epoch : Epoch A) (motion : Recovered A) (density : Density A) (w1 c1 : A) (coefficients : Coefficients A) : Type 0 where
  pub gives : (h : Place) (z : EpochRecord) (m : MotionRecord) (d : DensityRecord) (g : DragRecord) (f : RatesRecord) (k : CoefficientRecord) (r : MotionReach) (s : DensityReach) (r_w1 r_c1 : Reach) →
      IsCoefficientCase set motion z m d g f k → IsHeldEpoch E epoch h z → IsHeldMotion E motion h m r → IsHeldDensity E density h d s →
      Encloses E w1 h (unit_minutes 1 *ℚ f.w1) r_w1 → Encloses E c1 h (unit_minutes 1 *ℚ g.c1) r_c1 →
      IsHeldCoefficients E coefficients h k (reach_coefficients r s r_w1 r_c1)
