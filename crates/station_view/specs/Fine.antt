-- When the bounds of lengths and of a direction are surely narrow: on a cell that is fine enough, of a position that is far enough out.
use Rattle.std.specs.Prelude.{T, pos}
use Rattle.exact.specs.Rational.{ℚ, ratio, zero_ℚ, ◌≤ℚ◌}
use Rattle.fixed_iv.specs.EnclosedVector.{CoversVector}
use Rattle.earth_frame.specs.Spread.{IsSpreadWithin}
use Rattle.earth_frame.specs.declared.rotation.Turn.{Turn}
use Rattle.fixed_iv.specs.Place.{Place}
use Rattle.fixed_iv.specs.declared.enc.Enc.{Ghosts}
use Rattle.fixed_iv.specs.declared.iv.Iv.{Iv}
use Rattle.fixed_iv.specs.declared.vec3.Vec3.{Vec3}
use Rattle.sgp4_model.specs.Angle.{IsNear, IsPi, IsSinCos, Pair, part}
use Rattle.sgp4_model.specs.Numerals.{decimal, whole}
use Rattle.sgp4_model.specs.Vector.{Vector, inner_product}
use Rattle.station_view.specs.Judged.{AreNarrowLengths, IsNarrowSight}
use Rattle.station_view.specs.Lengths.{bounds_of}
use Rattle.station_view.specs.Toward.{CoversTurn}
use Rattle.station_view.specs.declared.station.Station.{Station}
use Rattle.station_view.specs.declared.vector.Lengths.{Lengths}
use Rattle.station_view.specs.declared.vector.Sight.{Sight}

-- the enclosures tell their spreads, which are at most so many units of 2^-48: of a coordinate, and of a number of the pair
pub record AreFine {A : Type 0} (E : Ghosts A) (turn : Turn A) (position : Vec3 A) : Type 0 where
  pub tells : T E.tells
  pub x : IsSpreadWithin 656000000 (E.extent position.x)
  pub y : IsSpreadWithin 656000000 (E.extent position.y)
  pub z : IsSpreadWithin 656000000 (E.extent position.z)
  pub sine : IsSpreadWithin 2291264 (E.extent turn.sin)
  pub cosine : IsSpreadWithin 2291264 (E.extent turn.cos)

-- no coordinate is larger than 4, and the square is at least 1.04: the position is more than 1.019 Earth radii out
pub record IsOutside (r : Vector) : Type 0 where
  pub x : IsNear (whole 4) r.x zero_ℚ
  pub y : IsNear (whole 4) r.y zero_ℚ
  pub z : IsNear (whole 4) r.z zero_ℚ
  pub square : ratio (pos 104) 100 ≤ℚ inner_product r r

-- at some place of the cell they cover some pair of an angle, and some such position
pub record CoverOutside {A : Type 0} (E : Ghosts A) (turn : Turn A) (position : Vec3 A) : Type 0 where
  pub place : Place
  pub pi : ℚ
  pub angle : ℚ
  pub pair : Pair
  pub vector : Vector
  pub is_pi : IsPi pi
  pub is_pair : IsSinCos pi angle pair.sine pair.cosine
  pub turns : CoversTurn E turn place pair
  pub covers : CoversVector E.covers position place vector
  pub outside : IsOutside vector

-- where this is so, the bounds of the lengths are narrow by 2^-15 Earth radii with the station's mask
abbrev pub AreNarrowWhereFine : {A : Type 0} → Ghosts A → Station → Turn A → Vec3 A → Lengths A → Type 0
AreNarrowWhereFine E station turn position lengths =
    AreFine E turn position → CoverOutside E turn position → AreNarrowLengths (part 15) (bounds_of E lengths) station.mask

-- the bounds of an enclosed direction
abbrev pub sight_bounds : {A : Type 0} → Ghosts A → Sight A → Sight Iv
sight_bounds E sight = record {
  east = (E.extent sight.east).ends;
  north = (E.extent sight.north).ends;
  up = (E.extent sight.up).ends;
}

-- and those of the direction are narrow by 0.002 with the mask; by 0.001 where the square of such a position is at least 1.069
pub record IsNarrowWhereFine {A : Type 0} (E : Ghosts A) (station : Station) (turn : Turn A) (position : Vec3 A) (sight : Sight A) : Type 0 where
  pub near : AreFine E turn position → CoverOutside E turn position → IsNarrowSight (decimal 2 3) (sight_bounds E sight) station.mask
  pub far :
      AreFine E turn position → (w : CoverOutside E turn position) → ratio (pos 1069) 1000 ≤ℚ inner_product w.vector w.vector →
      IsNarrowSight (decimal 1 3) (sight_bounds E sight) station.mask
