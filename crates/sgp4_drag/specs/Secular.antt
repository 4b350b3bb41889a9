-- What numerals say of the mean elements, from those of the constants and of the time; and when there are none.
use Rattle.std.specs.Prelude.{◌⊎◌}
use Rattle.exact.specs.Rational.{ℚ, ◌*ℚ◌}
use Rattle.fixed_iv.specs.Arithmetic.{numerals}
use Rattle.fixed_iv.specs.Follows.{Encloses}
use Rattle.fixed_iv.specs.Place.{Place}
use Rattle.fixed_iv.specs.Reach.{Reach, ◌+ᴿ◌, ◌-ᴿ◌, ◌*ᴿ◌, greater_of, turned}
use Rattle.fixed_iv.specs.declared.enc.Enc.{Ghosts}
use Rattle.sgp4_model.specs.Angle.{IsPi}
use Rattle.sgp4_model.specs.MeanElements.{IsMean, IsMeanUnguarded, SecularRecord}
use Rattle.sgp4_model.specs.OrbitRecords.{ConstRecord, MeanRecord}
use Rattle.sgp4_shape.specs.declared.consts.Consts.{Consts}
use Rattle.sgp4_shape.specs.declared.mean.Mean.{Mean}
use Rattle.sgp4_shape.specs.Covering.{CoversConsts, CoversMean, unit_minutes}
use Rattle.sgp4_shape.specs.Expected.{DragBox, IsInDragBox, expected}
use Rattle.sgp4_shape.specs.HeldConsts.{ConstReach, IsHeldConsts}
use Rattle.sgp4_shape.specs.HeldMean.{IsHeldMean, MeanReach}
use Rattle.sgp4_drag.specs.Guard.{AreAtLeast1, IsInsideGuard}
use Rattle.sgp4_drag.specs.Lines.{decayed, drag_correction, drag_factor, grown, longitude_gain, node, semimajor_axis}
use Rattle.sgp4_drag.specs.Raised.{least_eccentricity}

module _ (r : ConstReach) (t : Reach) where
  -- the semimajor axis
  abbrev pub reach_am : Reach
  reach_am =
      let t2 = t *ᴿ t in
      semimajor_axis numerals r.a (drag_factor numerals r.c1 r.d2 r.d3 r.d4 t t2 (t2 *ᴿ t) (t2 *ᴿ t2))

module _ (r : ConstReach) (t : Reach) (b : DragBox) where
  -- the mean anomaly without drag
  abbrev pub reach_mf : Reach
  reach_mf = grown numerals r.m0 r.mdot t

  -- the drag term of the mean anomaly times eta
  abbrev pub reach_bend : Reach
  reach_bend = expected b.known (r.xmcof *ᴿ r.eta) b.bend

  -- the correction by drag, and the mean anomaly with it
  abbrev pub reach_g : Reach
  reach_g = drag_correction numerals r.omgcof r.xmcof reach_bend r.eta r.delmo (turned reach_mf) t

  abbrev pub reach_mm : Reach
  reach_mm = reach_mf +ᴿ reach_g

  -- the eccentricity before it is raised
  abbrev pub reach_ecc : Reach
  reach_ecc = decayed numerals r.e r.bstar r.c4 r.c5 r.sin_m0 (turned reach_mm) t

  -- the mean elements
  abbrev pub reach_mean : MeanReach
  reach_mean =
      let t2 = t *ᴿ t in
      let t3 = t2 *ᴿ t in
      let t4 = t2 *ᴿ t2 in
      record {
        am = reach_am r t;
        em = greater_of reach_ecc least_eccentricity;
        ml = reach_mm +ᴿ r.n0 *ᴿ longitude_gain numerals r.t2cof r.t3cof r.t4cof r.t5cof t t2 t3 t4;
        wm = grown numerals r.w0 r.wdot t -ᴿ reach_g;
        om = node numerals r.o0 r.odot r.nodecf t t2;
      }

module _ {A : Type 0} (E : Ghosts A) (consts : Consts A) (t : A) where
  -- the mean elements are covered, of all constants and times that are
  abbrev pub CoversEachMean : Mean A → Type 0
  CoversEachMean mean =
      (h : Place) (pi x : ℚ) (k : ConstRecord) (m : MeanRecord) → CoversConsts E.covers consts k → E.covers t h x → IsPi pi →
      IsMean k pi (unit_minutes 1 *ℚ x) m → CoversMean E.covers mean h m

  -- numerals for them follow from those of the constants and of the time
  abbrev pub HoldsEachMean : Mean A → Type 0
  HoldsEachMean mean =
      (h : Place) (pi x : ℚ) (k : ConstRecord) (m : MeanRecord) (r : ConstReach) (n : Reach) (b : DragBox) →
      IsHeldConsts E.covers E.extent E.tells consts h k r → Encloses E t h x n → IsInDragBox k b → IsPi pi →
      IsMean k pi (unit_minutes 1 *ℚ x) m → IsHeldMean E.covers E.extent E.tells mean h m (reach_mean r n b)

  -- there are mean elements, of all constants and times that are covered
  abbrev pub EachMeanExists : Type 0
  EachMeanExists =
      (h : Place) (pi x : ℚ) (k : ConstRecord) → CoversConsts E.covers consts k → E.covers t h x → IsPi pi →
      (m : MeanRecord) × IsMean k pi (unit_minutes 1 *ℚ x) m

  -- some enclosure of the eccentricity before it is raised, as narrow as its equations give, is not inside the guard
  pub record IsEccentricityOut : Type 0 where
    pub ecc : A
    pub held :
        (h : Place) (pi x : ℚ) (k : ConstRecord) (s : SecularRecord) (m : MeanRecord) (r : ConstReach) (n : Reach) (b : DragBox) → IsPi pi →
        IsHeldConsts E.covers E.extent E.tells consts h k r → Encloses E t h x n → IsInDragBox k b →
        IsMeanUnguarded k (unit_minutes 1 *ℚ x) s pi m → Encloses E ecc h s.ecc (reach_ecc r n b)
    pub outside : ¬ IsInsideGuard (E.extent ecc).ends

  -- some enclosure of the semimajor axis, as narrow as its equations give, has bounds that are not at least 1
  pub record IsAxisLow : Type 0 where
    pub am : A
    pub held :
        (h : Place) (pi x : ℚ) (k : ConstRecord) (s : SecularRecord) (m : MeanRecord) (r : ConstReach) (n : Reach) → IsPi pi →
        IsHeldConsts E.covers E.extent E.tells consts h k r → Encloses E t h x n →
        IsMeanUnguarded k (unit_minutes 1 *ℚ x) s pi m → Encloses E am h m.am (reach_am r n)
    pub low : ¬ AreAtLeast1 (E.extent am).ends

  -- bounds do not meet the guards of the mean elements
  abbrev pub IsOutOfGuard : Type 0
  IsOutOfGuard = IsEccentricityOut ⊎ IsAxisLow
