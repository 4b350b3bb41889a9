-- What an enclosed vector covers, and its numerals.
use Rattle.std.specs.Prelude.{Bool}
use Rattle.exact.specs.Rational.{ℚ}
use Rattle.sgp4_model.specs.Vector.{Vector}
use Rattle.fixed_iv.specs.Extent.{Extent}
use Rattle.fixed_iv.specs.Place.{Place}
use Rattle.fixed_iv.specs.Reach.{Reach, IsHeld}
use Rattle.fixed_iv.specs.declared.vec3.Vec3.{Vec3}

-- each component is covered at the place
pub record CoversVector {A : Type 0} (covers : A → Place → ℚ → Type 0) (v : Vec3 A) (h : Place) (vector : Vector) : Type 0 where
  pub x : covers v.x h vector.x
  pub y : covers v.y h vector.y
  pub z : covers v.z h vector.z

-- numerals for each component
pub record VectorReach : Type 0 where
  pub x : Reach
  pub y : Reach
  pub z : Reach

-- each component is covered at the place, and its enclosure is as its numerals say
pub record IsHeldVector {A : Type 0} (covers : A → Place → ℚ → Type 0) (extent : A → Extent) (told : Bool) (v : Vec3 A) (h : Place) (vector : Vector) (r : VectorReach) : Type 0 where
  pub x : IsHeld covers extent told v.x h vector.x r.x
  pub y : IsHeld covers extent told v.y h vector.y r.y
  pub z : IsHeld covers extent told v.z h vector.z r.z
