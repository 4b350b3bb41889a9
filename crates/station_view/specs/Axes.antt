-- What enclosed axes and inner products cover, and their numerals.
use Rattle.std.specs.Prelude.{◌^◌, pos, negsuc, true}
use Rattle.exact.specs.Rational.{ℚ, ◌+ℚ◌, ◌-ℚ◌, ◌*ℚ◌}
use Rattle.fixed_iv.specs.EnclosedVector.{IsHeldVector, VectorReach}
use Rattle.fixed_iv.specs.Follows.{Encloses}
use Rattle.fixed_iv.specs.Place.{Place}
use Rattle.fixed_iv.specs.Reach.{IsGiven, Reach, from_to, turn_range, ◌+ᴿ◌, ◌*ᴿ◌}
use Rattle.fixed_iv.specs.declared.enc.Enc.{Ghosts}
use Rattle.fixed_iv.specs.declared.iv.Iv.{Iv}
use Rattle.fixed_iv.specs.declared.vec3.Vec3.{Vec3}
use Rattle.sgp4_model.specs.Angle.{Pair}
use Rattle.sgp4_model.specs.Vector.{Vector, inner_product}
use Rattle.kepler_enc.specs.Guess.{AreSized}
use Rattle.sgp4_periodic.specs.Pairs.{inner_of, most_pair, outer_of}
use Rattle.station_view.specs.SpotPairs.{ArePairsOf}
use Rattle.station_view.specs.declared.spot.Spot.{Spot}

-- each component is covered at the place, and its enclosure is as its numerals say
abbrev pub EnclosesVector : {A : Type 0} → Ghosts A → Vec3 A → Place → Vector → VectorReach → Type 0
EnclosesVector E v at vector r = IsHeldVector E.covers E.extent E.tells v at vector r

-- of a local axis: each component is at most 1.001 in size, and has a spread of at most 2^8 units
abbrev pub axis : VectorReach
axis = record {
  x = from_to (negsuc 1000) (pos 1001) 1000 (2 ^ 8);
  y = from_to (negsuc 1000) (pos 1001) 1000 (2 ^ 8);
  z = from_to (negsuc 1000) (pos 1001) 1000 (2 ^ 8);
}

-- the vector is a local axis of the spot, whatever pairs its angles have
abbrev pub IsAxisOf : {A : Type 0} → Ghosts A → Spot → (Pair → Pair → Vector) → Vec3 A → Type 0
IsAxisOf E spot axis_at result =
    (h : Place) (pi : ℚ) (lat lon : Pair) → ArePairsOf spot pi lat lon → EnclosesVector E result h (axis_at lat lon) axis

-- numerals of an inner product
abbrev pub inner_reach : VectorReach → VectorReach → Reach
inner_reach a b = a.x *ᴿ b.x +ᴿ a.y *ᴿ b.y +ᴿ a.z *ᴿ b.z

-- the number is the inner product of the two vectors
abbrev pub IsInnerProductOf : {A : Type 0} → Ghosts A → Vec3 A → Vec3 A → A → Type 0
IsInnerProductOf E a b result =
    (h : Place) (u v : Vector) (p q : VectorReach) → EnclosesVector E a h u p → EnclosesVector E b h v q →
    Encloses E result h (inner_product u v) (inner_reach p q)

-- numerals of a number of a slim pair
abbrev pub slim_number : Reach
slim_number = from_to (negsuc 100000) (pos 100001) 100000 64

-- the components are those that each pair in the intervals gives: (a cos + b sin, b cos - a sin)
abbrev pub AreTurnedBy : {A : Type 0} → Ghosts A → Iv → Iv → A → A → A → A → Type 0
AreTurnedBy E sine cosine a b first second =
    (h : Place) (s c x y : ℚ) (p q : Reach) → IsGiven sine s turn_range 64 → IsGiven cosine c turn_range 64 → AreSized most_pair c s →
    Encloses E a h x p → Encloses E b h y q →
    Encloses E first h (c *ℚ x +ℚ s *ℚ y) (inner_of true most_pair slim_number slim_number p q)
    × Encloses E second h (c *ℚ y -ℚ s *ℚ x) (outer_of true most_pair slim_number slim_number q p)
