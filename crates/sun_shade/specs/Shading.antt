-- What the enclosed numbers of a shadow cover, and how narrow they are.
use Rattle.std.specs.Prelude.{ℕ, T, ◌+◌, ◌*◌, ◌/◌, ◌^◌, ◌≤◌}
use Rattle.fixed_iv.specs.EnclosedVector.{CoversVector}
use Rattle.earth_frame.specs.Slim.{IsSlimAt}
use Rattle.earth_frame.specs.Spread.{IsSpreadWithin}
use Rattle.exact.specs.Rational.{ℚ}
use Rattle.fixed_iv.specs.Extent.{Extent, IsMeasured, size}
use Rattle.fixed_iv.specs.Place.{Place}
use Rattle.fixed_iv.specs.declared.enc.Enc.{Ghosts}
use Rattle.fixed_iv.specs.declared.vec3.Vec3.{Vec3}
use Rattle.sgp4_model.specs.Light.{shadow_of}
use Rattle.sgp4_model.specs.Vector.{Vector}
use Rattle.sun_shade.specs.declared.vector.Shade.{Shade}

-- the numbers of each covered position and each covered direction of the Sun are covered
abbrev pub CoversEachShadow : {A : Type 0} → Ghosts A → Vec3 A → Vec3 A → Shade A → Type 0
CoversEachShadow E pos sun result =
    (h : Place) (r s : Vector) → CoversVector E.covers pos h r → CoversVector E.covers sun h s →
    E.covers result.p h (shadow_of r s).p × E.covers result.g h (shadow_of r s).g

-- measured bounds of at most so many units in size, and a spread of at most so many
pub record IsSmallAt (most w : ℕ) (e : Extent) : Type 0 where
  pub measured : IsMeasured e
  pub within : size e.ends ≤ most
  pub narrow : e.spread ≤ w

-- each component is
pub record IsSmallVector {A : Type 0} (E : Ghosts A) (most w : ℕ) (v : Vec3 A) : Type 0 where
  pub x : IsSmallAt most w (E.extent v.x)
  pub y : IsSmallAt most w (E.extent v.y)
  pub z : IsSmallAt most w (E.extent v.z)

-- coordinates of at most 4 Earth radii with a spread of v, a Sun of at most 1.01 with a spread of z, both covered and told, and
-- v and z at most 2^-18
pub record AreSmall {A : Type 0} (E : Ghosts A) (pos sun : Vec3 A) (h : Place) (r s : Vector) (v z : ℕ) : Type 0 where
  pub told : T E.tells
  pub position : CoversVector E.covers pos h r
  pub direction : CoversVector E.covers sun h s
  pub near : IsSmallVector E (4 * 2 ^ 48) v pos
  pub unit : IsSmallVector E (101 * 2 ^ 48 / 100) z sun
  pub narrow_pos : v ≤ 2 ^ 30
  pub narrow_sun : z ≤ 2 ^ 30

-- then the depth has a spread of at most 4 v + 16 z + 64
abbrev pub IsNarrowDepth : {A : Type 0} → Ghosts A → Vec3 A → Vec3 A → A → Type 0
IsNarrowDepth E pos sun p =
    (h : Place) (r s : Vector) (v z : ℕ) → AreSmall E pos sun h r s v z → IsSpreadWithin (4 * v + 16 * z + 64) (E.extent p)

-- and the height one of at most 128 v + 600 z + 4096
abbrev pub IsNarrowHeight : {A : Type 0} → Ghosts A → Vec3 A → Vec3 A → A → Type 0
IsNarrowHeight E pos sun g =
    (h : Place) (r s : Vector) (v z : ℕ) → AreSmall E pos sun h r s v z → IsSpreadWithin (128 * v + 600 * z + 4096) (E.extent g)

-- measured bounds of at most so many units in size, and a spread of at most so many thousandths of a unit
abbrev pub IsThinAt : ℕ → ℕ → Extent → Type 0
IsThinAt most k e = IsSlimAt 0 most k 0 e

-- a depth of at most 12.13 with a spread of 3.03 v + 12 z + 6
abbrev pub IsThin : {A : Type 0} → Ghosts A → A → ℕ → ℕ → Type 0
IsThin E p v z = IsThinAt 3411528257340696 (3030 * v + 12000 * z + 6000) (E.extent p)

-- as it is where positions and Suns are small
abbrev pub IsThinDepth : {A : Type 0} → Ghosts A → Vec3 A → Vec3 A → A → Type 0
IsThinDepth E pos sun p = (h : Place) (r s : Vector) (v z : ℕ) → AreSmall E pos sun h r s v z → IsThin E p v z

-- of such a depth the height has a spread of at most 128 v + 600 z + 4096
abbrev pub IsThinHeight : {A : Type 0} → Ghosts A → Vec3 A → A → A → Type 0
IsThinHeight E pos p g =
    (h : Place) (r : Vector) (x : ℚ) (v z : ℕ) → T E.tells → CoversVector E.covers pos h r → E.covers p h x →
    IsSmallVector E (4 * 2 ^ 48) v pos → v ≤ 2 ^ 30 → z ≤ 2 ^ 30 → IsThin E p v z → IsSpreadWithin (128 * v + 600 * z + 4096) (E.extent g)
