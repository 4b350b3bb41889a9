-- Numerals of the lengths of a vector on a least cell, where the range lies between m and n ten-thousandths of an Earth radius.
use Rattle.std.proofs.Common.{◌≡◌, T, true, nat_le, ℕ, ◌+◌, ◌*◌, ◌^◌, pos, negsuc, neg_ℤ}
use Rattle.exact.specs.Interval.{Interval}
use Rattle.fixed_iv.specs.EnclosedVector.{VectorReach}
use Rattle.fixed_iv.specs.Reach.{Reach, claimed, from_to, ◌*ᴿ◌}
use Rattle.sgp4_periodic.specs.Pairs.{most_pair, outer_of}
use Rattle.station_view.specs.SightReach.{LengthsReach, SightReach, lengths_reach, range_reach, sight_reach}

-- of a number of the Earth's turn, and of a coordinate
abbrev pub turn_number : Reach
turn_number = from_to (negsuc 100000) (pos 100001) 100000 2291264

abbrev pub coordinate : Reach
coordinate = from_to (negsuc 3) (pos 4) 1 656000000

abbrev pub position_reach : VectorReach
position_reach = record { x = coordinate; y = coordinate; z = coordinate }

-- of the vector to a position, level with the equator and along the axis
abbrev pub level : Reach
level = from_to (negsuc 9) (pos 10) 1 1330400000

abbrev pub axial : Reach
axial = from_to (negsuc 9) (pos 10) 1 656100000

-- of a number of a border's pair, and of a floor's sine
abbrev pub sector_number : Reach
sector_number = from_to (negsuc 100000) (pos 100001) 100000 (2 ^ 20)

-- a component, and the square of the range
abbrev pub side : ℕ → Interval
side n = record { low = record { num = neg_ℤ (pos n); under = 9999 }; high = record { num = pos n; under = 9999 } }

abbrev pub square_range : ℕ → ℕ → Interval
square_range m n = record { low = record { num = pos (m * m); under = 99999999 }; high = record { num = pos (n * n); under = 99999999 } }

-- numerals of the vector, of a length along an axis, of the range, of a floor's sine times it, and of a cross product
abbrev pub vector_reach : ℕ → VectorReach
vector_reach n = record { x = claimed level (side n); y = claimed level (side n); z = claimed axial (side n) }

abbrev pub class_range : ℕ → ℕ → Reach
class_range m n = range_reach (vector_reach n) (square_range m n)

abbrev pub class_lengths : ℕ → ℕ → LengthsReach
class_lengths m n = lengths_reach (vector_reach n) (class_range m n)

abbrev pub floor_reach : ℕ → ℕ → Reach
floor_reach m n = sector_number *ᴿ class_range m n

abbrev pub cross_reach : Reach → Reach → Reach
cross_reach a b = outer_of true most_pair sector_number sector_number a b

-- the numerals say something, and that the spreads are at most 2^33 units
pub record IsClass (m n : ℕ) : Type 0 where
  pub length : T (class_lengths m n).up.ok
  pub floor : T (floor_reach m n).ok
  pub past : T (cross_reach (class_lengths m n).east (class_lengths m n).north).ok
  pub short : T (cross_reach (class_lengths m n).north (class_lengths m n).east).ok
  pub up : nat_le ((class_lengths m n).up.spread + (floor_reach m n).spread) (2 ^ 33) ≡ true
  pub past_least : nat_le (cross_reach (class_lengths m n).east (class_lengths m n).north).spread (2 ^ 33) ≡ true
  pub short_least : nat_le (cross_reach (class_lengths m n).north (class_lengths m n).east).spread (2 ^ 33) ≡ true

-- a component of a direction's lengths, which is no longer than the range and a little
abbrev pub wide : ℕ → Interval
wide n = record { low = record { num = neg_ℤ (pos (10 * n + 1)); under = 99999 }; high = record { num = pos (10 * n + 1); under = 99999 } }

abbrev pub claimed_lengths : ℕ → ℕ → LengthsReach
claimed_lengths m n = record {
  east = claimed (class_lengths m n).east (wide n);
  north = claimed (class_lengths m n).north (wide n);
  up = claimed (class_lengths m n).up (wide n);
  range = class_range m n;
}

-- numerals of the direction
abbrev pub class_sight : ℕ → ℕ → SightReach
class_sight m n = sight_reach (claimed_lengths m n)

-- they say something, and that the spreads are at most so many units
pub record IsSightClass (units m n : ℕ) : Type 0 where
  pub length : T (class_sight m n).up.ok
  pub past : T (cross_reach (class_sight m n).east (class_sight m n).north).ok
  pub short : T (cross_reach (class_sight m n).north (class_sight m n).east).ok
  pub up : nat_le ((class_sight m n).up.spread + 2 ^ 20) units ≡ true
  pub past_least : nat_le (cross_reach (class_sight m n).east (class_sight m n).north).spread units ≡ true
  pub short_least : nat_le (cross_reach (class_sight m n).north (class_sight m n).east).spread units ≡ true
