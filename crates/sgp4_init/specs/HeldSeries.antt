-- What numerals say of the enclosed drag terms of higher order.
use Rattle.exact.specs.Rational.{◌*ℚ◌}
use Rattle.fixed_iv.specs.Arithmetic.{numerals}
use Rattle.fixed_iv.specs.Follows.{Encloses}
use Rattle.fixed_iv.specs.Place.{Place}
use Rattle.fixed_iv.specs.Reach.{Reach}
use Rattle.fixed_iv.specs.declared.enc.Enc.{Ghosts}
use Rattle.sgp4_model.specs.Density.{DensityRecord, IsDensityTerms}
use Rattle.sgp4_model.specs.Drag.{DragRecord}
use Rattle.sgp4_model.specs.HigherDrag.{HigherDragRecord, IsHigherDragTerms, IsNoHigherDrag}
use Rattle.sgp4_model.specs.MeanMotion.{MotionRecord}
use Rattle.sgp4_shape.specs.Covering.{unit_minutes}
use Rattle.sgp4_motion.specs.Recovered.{TellsForm}
use Rattle.sgp4_motion.specs.declared.recovered.Recovered.{Recovered}
use Rattle.sgp4_init.specs.Numerals.{or_zero}
use Rattle.sgp4_init.specs.SeriesLines.{axis_times_xi, common_factor, fourth_term, longitude_cube, longitude_fifth, longitude_fourth, second_term, third_term}
use Rattle.sgp4_init.specs.declared.series.Series.{Series}

-- numerals for each term
pub record SeriesReach : Type 0 where
  pub d2 : Reach
  pub d3 : Reach
  pub d4 : Reach
  pub t3cof : Reach
  pub t4cof : Reach
  pub t5cof : Reach

-- each term is covered at the place in units of 16,384 minutes, and its enclosure is as its numerals say
pub record IsHeldSeries {A : Type 0} (E : Ghosts A) (series : Series A) (h : Place) (f : HigherDragRecord) (r : SeriesReach) : Type 0 where
  pub d2 : Encloses E series.d2 h (unit_minutes 2 *ℚ f.d2) r.d2
  pub d3 : Encloses E series.d3 h (unit_minutes 3 *ℚ f.d3) r.d3
  pub d4 : Encloses E series.d4 h (unit_minutes 4 *ℚ f.d4) r.d4
  pub t3cof : Encloses E series.t3cof h (unit_minutes 2 *ℚ f.t3cof) r.t3cof
  pub t4cof : Encloses E series.t4cof h (unit_minutes 3 *ℚ f.t4cof) r.t4cof
  pub t5cof : Encloses E series.t5cof h (unit_minutes 4 *ℚ f.t5cof) r.t5cof

module _ (a xi c1 : Reach) where
  -- the semimajor axis times xi
  abbrev pub reach_axi : Reach
  reach_axi = axis_times_xi numerals xi

  abbrev pub reach_d2 : Reach
  reach_d2 = second_term numerals reach_axi c1

  abbrev pub reach_w : Reach
  reach_w = common_factor numerals reach_d2 xi c1

  abbrev pub reach_d3 : Reach
  reach_d3 = third_term numerals a reach_w

  abbrev pub reach_d4 : Reach
  reach_d4 = fourth_term numerals reach_w reach_axi a c1

  -- the terms of higher order, or 0 in the simple form
  abbrev pub reach_series : SeriesReach
  reach_series = record {
    d2 = or_zero reach_d2;
    d3 = or_zero reach_d3;
    d4 = or_zero reach_d4;
    t3cof = or_zero (longitude_cube numerals reach_d2 c1);
    t4cof = or_zero (longitude_fourth numerals reach_d2 reach_d3 c1);
    t5cof = or_zero (longitude_fifth numerals reach_d2 reach_d3 reach_d4 c1);
  }

-- the enclosures hold the terms, in the form that is told
pub record HoldsSeries {A : Type 0} (E : Ghosts A) (motion : Recovered A) (xi c1 : A) (series : Series A) : Type 0 where
  pub gives : (h : Place) (m : MotionRecord) (d : DensityRecord) (g : DragRecord) (f : HigherDragRecord) (r_a r_xi r_c1 : Reach) →
      IsDensityTerms m d → IsHigherDragTerms m d g f → TellsForm motion m →
      Encloses E motion.a h m.a r_a → Encloses E xi h d.xi r_xi → Encloses E c1 h (unit_minutes 1 *ℚ g.c1) r_c1 →
      IsHeldSeries E series h f (reach_series r_a r_xi r_c1)

-- the enclosures hold that there are none, whatever the numerals of the terms would be
pub record HoldsNoSeries {A : Type 0} (E : Ghosts A) (series : Series A) : Type 0 where
  pub gives : (h : Place) (m : MotionRecord) (d : DensityRecord) (g : DragRecord) (f : HigherDragRecord) (r_a r_xi r_c1 : Reach) →
      IsNoHigherDrag m d g f → IsHeldSeries E series h f (reach_series r_a r_xi r_c1)
