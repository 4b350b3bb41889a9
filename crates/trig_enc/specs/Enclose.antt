-- What intervals of sines and cosines hold, and how wide they are.
use Rattle.std.specs.Prelude.{◌≡◌, ℕ, ℤ, pos, negsuc, ◌≤ℤ◌, ◌<ℤ◌, ◌+ℤ◌, ◌-ℤ◌}
use Rattle.exact.specs.Rational.{ℚ, ◌+ℚ◌, ◌*ℚ◌, ratio, of_int, one_ℚ, zero_ℚ}
use Rattle.sgp4_model.specs.Angle.{IsPi, IsSinCos, IsNear, part}
use Rattle.fixed_iv.specs.Ends.{in_units}
use Rattle.fixed_iv.specs.Holds.{Holds, IsBounded}
use Rattle.fixed_iv.specs.declared.iv.Iv.{Iv}

-- each pi of the bracket is held
abbrev pub HoldsPi : Iv → Type 0
HoldsPi v = (pi : ℚ) → IsPi pi → Holds v pi

-- for each pi of the bracket, and each number that x holds: each sine and each cosine of the number is held
abbrev pub HoldSinCos : Iv → Iv → Iv → Type 0
HoldSinCos x sines cosines =
    (pi number s c : ℚ) → IsPi pi → Holds x number → IsSinCos pi number s c → Holds sines s × Holds cosines c

-- the result is at most 16 units wider
abbrev pub IsAtMostWider : Iv → Iv → Type 0
IsAtMostWider x result = IsBounded x → (result.hi -ℤ result.lo) ≤ℤ ((x.hi -ℤ x.lo) +ℤ pos 16)

-- each number at most `radius` units and one unit from what the code has, and at most 1 + 2^-60 in size, is held
abbrev pub HoldsNear : ℤ → ℕ → Iv → Type 0
HoldsNear value radius result =
    (t : ℚ) → IsNear (part 60 +ℚ one_ℚ) t zero_ℚ →
    IsNear (of_int (pos radius) +ℚ one_ℚ) (in_units t) (ratio (pos 1) 16384 *ℚ of_int value) → Holds result t

-- each number at most 1 + 2^-60 in size is held
abbrev pub HoldsSizes : Iv → Type 0
HoldsSizes v = (t : ℚ) → IsNear (part 60 +ℚ one_ℚ) t zero_ℚ → Holds v t

-- a lower end: `radius` units and one below, but not below -(1 + 2^-48)
pub record IsLowAround (units : ℤ) (radius : ℕ) (lo : ℤ) : Type 0 where
  pub least : negsuc 281474976710656 ≤ℤ lo
  pub most : (lo +ℤ pos 1) ≤ℤ units
  pub near : (units -ℤ pos radius -ℤ pos 1) ≤ℤ lo
  pub free : negsuc 281474976710656 <ℤ lo → lo ≤ℤ (units -ℤ pos radius -ℤ pos 1)

-- an upper end: `radius` units and two above, but not above 1 + 2^-48
pub record IsHighAround (units : ℤ) (radius : ℕ) (hi : ℤ) : Type 0 where
  pub most : hi ≤ℤ pos 281474976710657
  pub least : (units +ℤ pos 1) ≤ℤ hi
  pub near : hi ≤ℤ (units +ℤ pos radius +ℤ pos 2)
  pub free : hi <ℤ pos 281474976710657 → (units +ℤ pos radius +ℤ pos 2) ≤ℤ hi

-- from -(1 + 2^-48) to 1 + 2^-48
pub record IsWidest (v : Iv) : Type 0 where
  pub low : v.lo ≡ negsuc 281474976710656
  pub high : v.hi ≡ pos 281474976710657

-- no end lies past 1 + 2^-48, to either side
pub record IsWithinLimits (v : Iv) : Type 0 where
  pub low : negsuc 281474976710656 ≤ℤ v.lo
  pub high : v.hi ≤ℤ pos 281474976710657
