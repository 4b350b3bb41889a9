-- What numerals say of an enclosed vector, and of one that is rotated to the Earth-fixed frame.
use Rattle.std.specs.Prelude.{Bool}
use Rattle.exact.specs.Rational.{ℚ}
use Rattle.fixed_iv.specs.Extent.{Extent}
use Rattle.fixed_iv.specs.EnclosedVector.{CoversVector, IsHeldVector, VectorReach}
use Rattle.fixed_iv.specs.Place.{Place}
use Rattle.fixed_iv.specs.Reach.{Reach, IsHeld, ◌+ᴿ◌, ◌*ᴿ◌, negative}
use Rattle.fixed_iv.specs.declared.vec3.Vec3.{Vec3}
use Rattle.fixed_iv.specs.declared.enc.Enc.{Ghosts}
use Rattle.sgp4_model.specs.Angle.{Pair}
use Rattle.sgp4_model.specs.Sidereal.{earth_fixed}
use Rattle.sgp4_model.specs.Vector.{Vector}

-- numerals for the rotated vector, from those of the sine, of the cosine and of the vector
abbrev pub rotated : Reach → Reach → VectorReach → VectorReach
rotated sine cosine r = record {
  x = r.x *ᴿ cosine +ᴿ r.y *ᴿ sine;
  y = negative r.x *ᴿ sine +ᴿ r.y *ᴿ cosine;
  z = r.z;
}

-- the rotation of each covered vector by each covered pair is covered
abbrev pub CoversEachRotated : {A : Type 0} → Ghosts A → A → A → Vec3 A → Vec3 A → Type 0
CoversEachRotated E sin cos v result =
    (h : Place) (turn : Pair) (vector : Vector) → E.covers sin h turn.sine → E.covers cos h turn.cosine → CoversVector E.covers v h vector →
    CoversVector E.covers result h (earth_fixed turn vector)

-- and it is as the numerals of the pair and of the vector say
abbrev pub HoldsEachRotated : {A : Type 0} → Ghosts A → A → A → Vec3 A → Vec3 A → Type 0
HoldsEachRotated E sin cos v result =
    (h : Place) (turn : Pair) (vector : Vector) (sine cosine : Reach) (r : VectorReach) →
    IsHeld E.covers E.extent E.tells sin h turn.sine sine → IsHeld E.covers E.extent E.tells cos h turn.cosine cosine →
    IsHeldVector E.covers E.extent E.tells v h vector r →
    IsHeldVector E.covers E.extent E.tells result h (earth_fixed turn vector) (rotated sine cosine r)
