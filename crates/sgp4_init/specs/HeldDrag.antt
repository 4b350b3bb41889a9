-- What numerals say of the enclosed drag coefficients.
use Rattle.std.specs.Prelude.{pos, negsuc}
use Rattle.exact.specs.Rational.{ℚ, one_ℚ, zero_ℚ, ◌+ℚ◌, ◌*ℚ◌}
use Rattle.exact.specs.Interval.{between}
use Rattle.fixed_iv.specs.Arithmetic.{numerals}
use Rattle.fixed_iv.specs.Follows.{Encloses}
use Rattle.fixed_iv.specs.Place.{Place}
use Rattle.fixed_iv.specs.Reach.{Reach, claimed, ◌+ᴿ◌, ◌*ᴿ◌, ◌/ᴿ◌}
use Rattle.fixed_iv.specs.declared.enc.Enc.{Ghosts}
use Rattle.sgp4_model.specs.Angle.{IsNear, part}
use Rattle.sgp4_model.specs.Density.{DensityRecord, IsDensityTerms}
use Rattle.sgp4_model.specs.Drag.{DragRecord, IsDragCoefficient, IsEccentricityDragCoefficient, IsPeriodicEccentricityDragCoefficient}
use Rattle.sgp4_model.specs.MeanMotion.{MotionRecord, RecoversMotion}
use Rattle.sgp4_shape.specs.Covering.{unit_minutes}
use Rattle.sgp4_motion.specs.HeldMotion.{IsHeldMotion, MotionReach}
use Rattle.sgp4_motion.specs.Recovered.{TellsForm}
use Rattle.sgp4_motion.specs.declared.recovered.Recovered.{Recovered}
use Rattle.sgp4_init.specs.DragLines.{along_orbit, by_eccentricity, by_oblateness, c4_bracket, c5_bracket, share_of_j2, steady_shape, turning_shape}
use Rattle.sgp4_init.specs.HeldDensity.{DensityReach, IsHeldDensity}
use Rattle.sgp4_init.specs.Numerals.{or_zero}
use Rattle.sgp4_init.specs.TakenMotion.{IsTakenMotion}
use Rattle.sgp4_init.specs.declared.density.Density.{Density}
use Rattle.sgp4_init.specs.declared.drag.Drag.{Drag}

-- numerals for each coefficient
pub record DragReach : Type 0 where
  pub c1 : Reach
  pub c4 : Reach
  pub c5 : Reach

-- each coefficient is covered at the place, and its enclosure is as its numerals say; C1 and C4 per 16,384 minutes
pub record IsHeldDrag {A : Type 0} (E : Ghosts A) (drag : Drag A) (h : Place) (g : DragRecord) (r : DragReach) : Type 0 where
  pub c1 : Encloses E drag.c1 h (unit_minutes 1 *ℚ g.c1) r.c1
  pub c4 : Encloses E drag.c4 h (unit_minutes 1 *ℚ g.c4) r.c4
  pub c5 : Encloses E drag.c5 h g.c5 r.c5

module _ (r : MotionReach) (d : DensityReach) where
  abbrev pub reach_et2 : Reach
  reach_et2 = d.eta *ᴿ d.eta

  abbrev pub reach_eeta : Reach
  reach_eeta = r.e *ᴿ d.eta

  -- the bracket in C2
  abbrev pub reach_c2_bracket : Reach
  reach_c2_bracket = along_orbit numerals r.a reach_et2 reach_eeta +ᴿ by_oblateness numerals d.xp r.con41 reach_et2

  -- the bracket in C4, from the numerals of the cosine of twice the argument of perigee
  abbrev pub reach_share : Reach
  reach_share = (share_of_j2 numerals d.xp r.a).0 /ᴿ (share_of_j2 numerals d.xp r.a).1

  abbrev pub reach_c4_bracket : Reach → Reach
  reach_c4_bracket cosine =
      c4_bracket numerals (by_eccentricity numerals d.eta r.e reach_et2) reach_share
      (steady_shape numerals r.con41 reach_et2 reach_eeta) (turning_shape numerals r.c reach_et2 reach_eeta cosine)

  -- C5, which is at most 0.005 in size, or 0 in the simple form
  abbrev pub reach_c5 : Reach
  reach_c5 = or_zero (claimed ((d.coef1 +ᴿ d.coef1) *ᴿ r.p *ᴿ c5_bracket numerals reach_et2 reach_eeta) (between (negsuc 4) 1000 (pos 5) 1000))

  -- The drag coefficients, from the numerals of the drag term and of that cosine. C2 is at most 1.82 in size per 16,384
  -- minutes, and C4 at most 1.07.
  abbrev pub reach_drag : Reach → Reach → DragReach
  reach_drag bstar cosine = record {
    c1 = bstar *ᴿ claimed (d.coef1 *ᴿ r.n0 *ᴿ reach_c2_bracket) (between (negsuc 181) 100 (pos 182) 100);
    c4 = claimed ((d.coef1 *ᴿ r.n0 +ᴿ d.coef1 *ᴿ r.n0) *ᴿ r.p *ᴿ reach_c4_bracket cosine) (between (negsuc 106) 100 (pos 107) 100);
    c5 = reach_c5;
  }

-- the enclosures hold the coefficients of a motion that is taken, in the form that is told
pub record HoldsDrag {A : Type 0} (E : Ghosts A) (motion : Recovered A) (density : Density A) (bstar cosine : A) (drag : Drag A) : Type 0 where
  pub gives : (h : Place) (m : MotionRecord) (d : DensityRecord) (g : DragRecord) (x_bstar x_cosine : ℚ) (r : MotionReach) (s : DensityReach) (r_bstar r_cosine : Reach) →
      RecoversMotion m → IsTakenMotion m → TellsForm motion m → IsDensityTerms m d → IsNear (part 60 +ℚ one_ℚ) x_cosine zero_ℚ →
      IsDragCoefficient m d g x_bstar → IsEccentricityDragCoefficient m d g x_cosine → IsPeriodicEccentricityDragCoefficient m d g →
      IsHeldMotion E motion h m r → IsHeldDensity E density h d s → Encloses E bstar h x_bstar r_bstar → Encloses E cosine h x_cosine r_cosine →
      IsHeldDrag E drag h g (reach_drag r s r_bstar r_cosine)

-- the result holds C5, in the form that is told
pub record HoldsPeriodicDrag {A : Type 0} (E : Ghosts A) (motion : Recovered A) (coef1 et2 eeta result : A) : Type 0 where
  pub gives : (h : Place) (m : MotionRecord) (d : DensityRecord) (g : DragRecord) (r : MotionReach) (s : DensityReach) →
      RecoversMotion m → IsTakenMotion m → TellsForm motion m → IsDensityTerms m d → IsPeriodicEccentricityDragCoefficient m d g →
      IsHeldMotion E motion h m r → Encloses E coef1 h d.coef1 s.coef1 →
      Encloses E et2 h (d.eta *ℚ d.eta) (reach_et2 r s) → Encloses E eeta h (m.e *ℚ d.eta) (reach_eeta r s) →
      Encloses E result h g.c5 (reach_c5 r s)
