-- What numerals say of the enclosed terms of the density.
use Rattle.std.specs.Prelude.{◌≡◌, pos}
use Rattle.exact.specs.Rational.{ℚ, abs_ℚ, zero_ℚ, ◌/ℚ◌}
use Rattle.exact.specs.Interval.{between}
use Rattle.fixed_iv.specs.Arithmetic.{numerals}
use Rattle.fixed_iv.specs.Follows.{Encloses}
use Rattle.fixed_iv.specs.Place.{Place}
use Rattle.fixed_iv.specs.Reach.{Reach, claimed, ◌+ᴿ◌, ◌*ᴿ◌, ◌/ᴿ◌}
use Rattle.fixed_iv.specs.ReachRoots.{rooted}
use Rattle.fixed_iv.specs.declared.enc.Enc.{Ghosts}
use Rattle.sgp4_model.specs.Density.{DensityRecord, IsDensityTerms}
use Rattle.sgp4_model.specs.MeanMotion.{MotionRecord, RecoversMotion}
use Rattle.sgp4_model.specs.Root.{IsSqrt}
use Rattle.sgp4_motion.specs.HeldMotion.{IsHeldMotion, MotionReach}
use Rattle.sgp4_motion.specs.declared.recovered.Recovered.{Recovered}
use Rattle.sgp4_init.specs.DensityLines.{above_base, fourth_power, less_square}
use Rattle.sgp4_init.specs.Numerals.{of_ratio, sized}
use Rattle.sgp4_init.specs.TakenMotion.{IsTakenMotion}
use Rattle.sgp4_init.specs.declared.density.Density.{Density}

-- numerals for each term
pub record DensityReach : Type 0 where
  pub xi : Reach
  pub eta : Reach
  pub xp : Reach
  pub coef : Reach
  pub coef1 : Reach

-- each term is covered at the place, and its enclosure is as its numerals say; xp stands for xi over psi
pub record IsHeldDensity {A : Type 0} (E : Ghosts A) (density : Density A) (h : Place) (d : DensityRecord) (r : DensityReach) : Type 0 where
  pub xi : Encloses E density.xi h d.xi r.xi
  pub eta : Encloses E density.eta h d.eta r.eta
  pub xp : Encloses E density.xp h (d.xi /ℚ d.psi) r.xp
  pub coef : Encloses E density.coef h d.coef r.coef
  pub coef1 : Encloses E density.coef1 h d.coef1 r.coef1

module _ (r : MotionReach) where
  -- a - s
  abbrev pub reach_above : Reach
  reach_above = above_base numerals r.a

  abbrev pub reach_xi : Reach
  reach_xi = of_ratio (pos 1) (pos 1) /ᴿ reach_above

  -- it is at most 0.8827 where the perigee is high and the orbit nearly round
  abbrev pub reach_eta : Reach
  reach_eta = claimed (r.e *ᴿ r.a /ᴿ reach_above) (between (pos 0) 10000 (pos 8827) 10000)

  -- (a - s) / (a - s + e a), which is from 1/2 to 1
  abbrev pub reach_share : Reach
  reach_share = claimed (reach_above /ᴿ (reach_above +ᴿ r.e *ᴿ r.a)) (between (pos 1) 2 (pos 2) 2)

  abbrev pub reach_xp : Reach
  reach_xp = reach_share /ᴿ above_base numerals r.rp

  abbrev pub reach_psi : Reach
  reach_psi = sized (less_square numerals reach_eta)

  -- psi over its square root, which is at most 1.0001
  abbrev pub reach_root : Reach
  reach_root = claimed (reach_psi /ᴿ rooted reach_psi) (between (pos 2000) 10000 (pos 10001) 10000)

  -- the terms of the density
  abbrev pub reach_density : DensityReach
  reach_density = record {
    xi = reach_xi;
    eta = reach_eta;
    xp = reach_xp;
    coef = fourth_power numerals reach_xi;
    coef1 = fourth_power numerals reach_xp *ᴿ reach_root;
  }

-- the enclosures hold the terms of a motion that is taken
pub record HoldsDensity {A : Type 0} (E : Ghosts A) (motion : Recovered A) (density : Density A) : Type 0 where
  pub gives : (h : Place) (m : MotionRecord) (d : DensityRecord) (r : MotionReach) →
      RecoversMotion m → IsTakenMotion m → IsDensityTerms m d →
      IsHeldMotion E motion h m r → IsHeldDensity E density h d (reach_density r)

-- the result encloses the absolute value
pub record IsSize {A : Type 0} (E : Ghosts A) (x result : A) : Type 0 where
  pub gives : (h : Place) (y : ℚ) (r : Reach) → Encloses E x h y r → Encloses E result h (abs_ℚ y) (sized r)

-- the result encloses a number over each of its square roots that is not 0
pub record IsOverRoot {A : Type 0} (E : Ghosts A) (x result : A) : Type 0 where
  pub gives : {h : Place} {y root : ℚ} {r : Reach} → IsSqrt y root → ¬ (root ≡ zero_ℚ) →
      Encloses E x h y r → Encloses E result h (y /ℚ root) (r /ᴿ rooted r)
