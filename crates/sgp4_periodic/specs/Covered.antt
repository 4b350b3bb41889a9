-- What an enclosed position covers, and its numerals.
use Rattle.std.specs.Prelude.{T, true}
use Rattle.exact.specs.Rational.{ℚ}
use Rattle.fixed_iv.specs.Arithmetic.{numerals}
use Rattle.fixed_iv.specs.EnclosedVector.{IsHeldVector, VectorReach}
use Rattle.fixed_iv.specs.Place.{Place}
use Rattle.fixed_iv.specs.Reach.{Reach, ◌*ᴿ◌, turned}
use Rattle.fixed_iv.specs.declared.enc.Enc.{Ghosts}
use Rattle.fixed_iv.specs.declared.vec3.Vec3.{Vec3}
use Rattle.sgp4_model.specs.Angle.{IsPi}
use Rattle.sgp4_model.specs.OrbitRecords.{ConstRecord, MeanRecord}
use Rattle.sgp4_model.specs.Position.{IsCorrectedLatitude, IsTemeVector, PeriodicRecord}
use Rattle.sgp4_model.specs.Vector.{Vector}
use Rattle.sgp4_shape.specs.Expected.{expected}
use Rattle.sgp4_periodic.specs.Box.{IsInBox, PositionBox}
use Rattle.sgp4_periodic.specs.Corrected.{CorrectedReach, IsHeldCorrected}
use Rattle.sgp4_periodic.specs.Lines.{cosine_of_sum, sine_of_sum}
use Rattle.sgp4_periodic.specs.Pairs.{inner_of, most_pair, outer_of}
use Rattle.sgp4_periodic.specs.declared.corrected.Corrected.{Corrected}

module _ (r : CorrectedReach) (b : PositionBox) where
  -- the sine of the change of the argument of latitude
  abbrev pub reach_sine : Reach
  reach_sine = expected b.known (turned r.du) b.change

  -- the sine of the corrected argument of latitude
  abbrev pub reach_sw : Reach
  reach_sw = sine_of_sum numerals r.su r.cu reach_sine (turned r.du)

  -- its cosine
  abbrev pub reach_cw : Reach
  reach_cw = cosine_of_sum numerals r.su r.cu reach_sine (turned r.du)

  -- the cosine of the inclination times the sine of the corrected argument of latitude
  abbrev pub reach_tilted : Reach
  reach_tilted = turned r.xinc *ᴿ reach_sw

  -- the position at the corrected distance and angles
  abbrev pub reach_position : VectorReach
  reach_position = record {
    x = r.mrt *ᴿ outer_of true most_pair (turned r.xnode) (turned r.xnode) reach_cw reach_tilted;
    y = r.mrt *ᴿ inner_of true most_pair (turned r.xnode) (turned r.xnode) reach_tilted reach_cw;
    z = r.mrt *ᴿ turned r.xinc *ᴿ reach_sw;
  }

-- numerals for the enclosed position follow from those of the distance and the angles, where the exact quantities lie in
-- a box, if one is known
abbrev pub HoldsPosition : {A : Type 0} → Ghosts A → Corrected A → Vec3 A → Type 0
HoldsPosition E at position =
    (h : Place) (pi : ℚ) (k : ConstRecord) (m : MeanRecord) (q : PeriodicRecord) (v : Vector) (r : CorrectedReach)
    (b : PositionBox) → IsPi pi → IsHeldCorrected E.covers E.extent E.tells at h q r →
    IsCorrectedLatitude k m q pi → IsTemeVector k m q pi v → (T b.known → IsInBox q b) →
    IsHeldVector E.covers E.extent E.tells position h v (reach_position r b)
