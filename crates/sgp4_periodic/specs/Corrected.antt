-- Distance and angles with their short-period corrections: what an enclosure of them covers, and their numerals.
use Rattle.std.specs.Prelude.{Bool, T}
use Rattle.exact.specs.Rational.{ℚ}
use Rattle.fixed_iv.specs.Arithmetic.{numerals}
use Rattle.fixed_iv.specs.Extent.{Extent}
use Rattle.fixed_iv.specs.Follows.{Encloses}
use Rattle.fixed_iv.specs.Place.{Place}
use Rattle.fixed_iv.specs.Reach.{Reach, IsHeld, ◌-ᴿ◌, ◌*ᴿ◌, ◌/ᴿ◌, turned}
use Rattle.fixed_iv.specs.ReachRoots.{rooted}
use Rattle.fixed_iv.specs.declared.enc.Enc.{Ghosts}
use Rattle.sgp4_model.specs.Angle.{IsPi}
use Rattle.sgp4_model.specs.OrbitRecords.{ConstRecord, MeanRecord}
use Rattle.sgp4_model.specs.Position.{IsPositionUnguarded, PeriodicRecord}
use Rattle.sgp4_model.specs.Vector.{Vector}
use Rattle.sgp4_shape.specs.Expected.{expected}
use Rattle.sgp4_shape.specs.HeldConsts.{ConstReach, IsHeldConsts}
use Rattle.sgp4_shape.specs.HeldMean.{IsHeldMean, MeanReach}
use Rattle.sgp4_shape.specs.declared.consts.Consts.{Consts}
use Rattle.sgp4_shape.specs.declared.mean.Mean.{Mean}
use Rattle.sgp4_periodic.specs.Box.{IsInBox, PositionBox}
use Rattle.sgp4_periodic.specs.Divided.{divided}
use Rattle.sgp4_periodic.specs.Ellipse.{EllipseReach, IsHeldEllipse}
use Rattle.sgp4_periodic.specs.Lines.{cosine_of_latitude, cosine_of_twice, distance, half_j2_over, inclination, latitude_change, node, one_and_a_half, over_one_plus, sine_of_latitude, sine_of_twice}
use Rattle.sgp4_periodic.specs.Pairs.{inner_of, outer_of}
use Rattle.sgp4_periodic.specs.declared.corrected.Corrected.{Corrected}
use Rattle.sgp4_periodic.specs.declared.ellipse.Ellipse.{Ellipse}

-- numerals for distance and angles
pub record CorrectedReach : Type 0 where
  pub mrt : Reach
  pub su : Reach
  pub cu : Reach
  pub du : Reach
  pub xnode : Reach
  pub xinc : Reach

-- each of them is covered at the place, and its enclosure is as its numerals say
pub record IsHeldCorrected {A : Type 0} (covers : A → Place → ℚ → Type 0) (extent : A → Extent) (told : Bool)
    (at : Corrected A) (h : Place) (q : PeriodicRecord) (r : CorrectedReach) : Type 0 where
  pub mrt : IsHeld covers extent told at.mrt h q.mrt r.mrt
  pub su : IsHeld covers extent told at.su h q.su r.su
  pub cu : IsHeld covers extent told at.cu h q.cu r.cu
  pub du : IsHeld covers extent told at.du h q.du r.du
  pub xnode : IsHeld covers extent told at.xnode h q.xnode r.xnode
  pub xinc : IsHeld covers extent told at.xinc h q.xinc r.xinc

module _ (r : ConstReach) (n : MeanReach) (e : EllipseReach) (root : Reach) (b : PositionBox) where
  -- the distance over the semimajor axis
  abbrev pub reach_near : Reach
  reach_near =
      let part = inner_of b.known b.vector e.ax e.ay (turned root) (turned root) in
      numerals.whole 1 -ᴿ expected b.known part b.inner

  -- the root of what the square of the eccentricity vector leaves of 1
  abbrev pub reach_b : Reach
  reach_b = rooted e.rest

  -- es / (1 + b)
  abbrev pub reach_f : Reach
  reach_f =
      divided (over_one_plus numerals (outer_of b.known b.vector e.ax e.ay (turned root) (turned root)) reach_b)

  -- the sine of the argument of latitude
  abbrev pub reach_su : Reach
  reach_su =
      expected b.known (divided (sine_of_latitude numerals (turned root) e.ax e.ay reach_f reach_near)) b.latitude

  -- its cosine
  abbrev pub reach_cu : Reach
  reach_cu =
      expected b.known (divided (cosine_of_latitude numerals (turned root) e.ax e.ay reach_f reach_near)) b.latitude

  -- the sine of twice the argument of latitude
  abbrev pub reach_s2 : Reach
  reach_s2 = sine_of_twice numerals reach_su reach_cu

  -- its cosine
  abbrev pub reach_c2 : Reach
  reach_c2 = cosine_of_twice numerals reach_su

  -- half of J2 over the semilatus rectum
  abbrev pub reach_k1 : Reach
  reach_k1 = divided (half_j2_over numerals e.pl)

  -- the same over its square
  abbrev pub reach_k2 : Reach
  reach_k2 = reach_k1 /ᴿ e.pl

  -- 1.5 times that
  abbrev pub reach_k : Reach
  reach_k = one_and_a_half numerals reach_k2

  -- the corrected distance and angles
  abbrev pub reach_corrected : CorrectedReach
  reach_corrected = record {
    mrt = distance numerals (n.am *ᴿ reach_near) reach_k1 reach_k reach_b r.con41 r.c reach_c2;
    su = reach_su;
    cu = reach_cu;
    du = latitude_change numerals reach_k2 r.c reach_s2;
    xnode = node numerals n.om reach_k r.c reach_s2;
    xinc = inclination numerals r.i reach_k r.c r.si reach_c2;
  }

-- numerals for the enclosed distance and angles follow from those of the constants, the mean elements, the ellipse and
-- the root, where the exact quantities lie in a box, if one is known
abbrev pub HoldsCorrected : {A : Type 0} → Ghosts A → Consts A → Mean A → Ellipse A → A → Corrected A → Type 0
HoldsCorrected E consts mean ellipse root result =
    (h : Place) (pi x_root : ℚ) (k : ConstRecord) (m : MeanRecord) (q : PeriodicRecord) (v : Vector) (r : ConstReach)
    (n : MeanReach) (e : EllipseReach) (r_root : Reach) (b : PositionBox) → IsPi pi →
    IsHeldConsts E.covers E.extent E.tells consts h k r → IsHeldMean E.covers E.extent E.tells mean h m n →
    IsHeldEllipse E.covers E.extent E.tells ellipse h q e → Encloses E root h x_root r_root →
    IsPositionUnguarded k m q pi x_root v → (T b.known → IsInBox q b) →
    IsHeldCorrected E.covers E.extent E.tells result h q (reach_corrected r n e r_root b)
