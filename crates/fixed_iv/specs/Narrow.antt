-- The rule of each operation on the spread of its result. A given interval is an argument with its width as spread.
use Rattle.std.specs.Prelude.{◌≡◌, ℕ, ◌+◌, ◌*◌, ◌^◌, ◌<◌, ◌≤◌, max, ◌⊎◌, pos, ◌+ℤ◌, ◌-ℤ◌, ◌*ℤ◌, ◌≤ℤ◌, unsigned_abs}
use Rattle.std.specs.Int.{int_min, int_max}
use Rattle.exact.specs.Rational.{ℚ, ◌+ℚ◌, ◌-ℚ◌, ◌*ℚ◌, ◌/ℚ◌}
use Rattle.sgp4_model.specs.Angle.{IsPi, IsSinCos}
use Rattle.sgp4_model.specs.Root.{IsCbrt2, IsSqrt}
use Rattle.fixed_iv.specs.Common.{IsGreaterOf}
use Rattle.fixed_iv.specs.Extent.{Extent, IsMeasured, IsNarrow, size, width_of}
use Rattle.fixed_iv.specs.Holds.{Holds, IsBounded}
use Rattle.fixed_iv.specs.Place.{Place, on_line}
use Rattle.fixed_iv.specs.Results.{IsNegativeOf, IsResultOf}
use Rattle.fixed_iv.specs.declared.iv.Iv.{Iv}

-- at most the given interval's width
abbrev pub IsNarrowConstant : Iv → Extent → Type 0
IsNarrowConstant v r = IsNarrow (IsBounded v) (Holds v) (λ n. n ≤ width_of v) r

-- at most one unit
abbrev pub IsNarrowPi : Extent → Type 0
IsNarrowPi r = IsNarrow (Unit {0}) IsPi (λ n. n ≤ 1) r

-- a number on a line from a number of a to a number of b
pub record IsOnLine (a b : Iv) (result : ℚ) : Type 0 where
  pub place : Place
  pub start : ℚ
  pub end : ℚ
  pub of_start : Holds a start
  pub of_end : Holds b end
  pub is : result ≡ on_line place start end

-- at most the width of the hull of both
abbrev pub IsNarrowLine : Iv → Iv → Extent → Type 0
IsNarrowLine a b r =
    IsNarrow (IsBounded a × IsBounded b) (IsOnLine a b)
    (λ n. n ≤ unsigned_abs (int_max a.hi b.hi -ℤ int_min a.lo b.lo)) r

-- at most the sum of both spreads
abbrev pub IsNarrowSum : Extent → Extent → Extent → Type 0
IsNarrowSum a b r = IsNarrow (IsMeasured a × IsMeasured b) (IsResultOf ◌+ℚ◌ a.ends b.ends) (λ n. n ≤ a.spread + b.spread) r

-- at most the sum of both spreads
abbrev pub IsNarrowDifference : Extent → Extent → Extent → Type 0
IsNarrowDifference a b r = IsNarrow (IsMeasured a × IsMeasured b) (IsResultOf ◌-ℚ◌ a.ends b.ends) (λ n. n ≤ a.spread + b.spread) r

-- at most the argument's spread
abbrev pub IsNarrowNegative : Extent → Extent → Type 0
IsNarrowNegative a r = IsNarrow (IsMeasured a) (IsNegativeOf a.ends) (λ n. n ≤ a.spread) r

-- at most |a| * spread b + |b| * spread a, each size in units, divided by 2^48, and two units
abbrev pub IsNarrowProduct : Extent → Extent → Extent → Type 0
IsNarrowProduct a b r =
    IsNarrow (IsMeasured a × IsMeasured b) (IsResultOf ◌*ℚ◌ a.ends b.ends)
    (λ n. n * 2 ^ 48 ≤ size a.ends * b.spread + size b.ends * a.spread + 2 * 2 ^ 48) r

-- both ends are at least m units, or both at most -m
abbrev pub IsApart : Iv → ℕ → Type 0
IsApart v m = (pos m ≤ℤ v.lo) ⊎ ((v.hi +ℤ pos m) ≤ℤ pos 0)

-- Where the divisor's bounds are at least m units from 0, m at least 1: at most spread a / m + |a| * spread b / m^2,
-- each with 2^48 units in 1, and two units.
abbrev pub IsNarrowQuotient : Extent → Extent → Extent → Type 0
IsNarrowQuotient a b r =
    (m : ℕ) → 0 < m →
    IsNarrow ((IsMeasured a × IsMeasured b) × IsApart b.ends m) (IsResultOf ◌/ℚ◌ a.ends b.ends)
    (λ n. n * (m * m) ≤ a.spread * 2 ^ 48 * m + size a.ends * b.spread * 2 ^ 48 + 2 * (m * m)) r

-- at most the larger of the argument's spread and the width of the floor
abbrev pub IsNarrowGreater : Extent → Iv → Extent → Type 0
IsNarrowGreater a floor r =
    IsNarrow (IsMeasured a × IsBounded floor) (IsGreaterOf a.ends floor) (λ n. n ≤ max a.spread (width_of floor)) r

-- a sine or a cosine of a number of a, by some pi of the bracket
pub record IsTurnOf (a : Iv) (result : ℚ) : Type 0 where
  pub pi : ℚ
  pub number : ℚ
  pub sine : ℚ
  pub cosine : ℚ
  pub of_pi : IsPi pi
  pub of_number : Holds a number
  pub pair : IsSinCos pi number sine cosine
  pub is : (result ≡ sine) ⊎ (result ≡ cosine)

-- at most the argument's spread and 16 units
abbrev pub IsNarrowTurn : Extent → Extent → Type 0
IsNarrowTurn a r = IsNarrow (IsMeasured a) (IsTurnOf a.ends) (λ n. n ≤ a.spread + 16) r

-- a square root of a number of a
pub record IsSqrtOf (a : Iv) (result : ℚ) : Type 0 where
  pub number : ℚ
  pub of_number : Holds a number
  pub is : IsSqrt number result

-- a cube root of the square of a number of a
pub record IsCbrt2Of (a : Iv) (result : ℚ) : Type 0 where
  pub number : ℚ
  pub of_number : Holds a number
  pub is : IsCbrt2 number result

-- the lower end is at most two units below the square root of the argument's lower end
pub record IsNearRootBelow (a r : Iv) : Type 0 where
  pub sign : pos 0 ≤ℤ r.lo
  pub square : (a.lo *ℤ pos (2 ^ 48)) ≤ℤ ((r.lo +ℤ pos 2) *ℤ (r.lo +ℤ pos 2))

-- Where the bounds are at least 1/64, at most four times the argument's spread and six units. Where they are at least
-- 1/4096, at most that spread divided by twice the lower end of the result, and six units; that end is near the root.
pub record IsNarrowRoot (a r : Extent) : Type 0 where
  pub from_64th : IsNarrow (IsMeasured a × (pos (2 ^ 42) ≤ℤ a.ends.lo)) (IsSqrtOf a.ends) (λ n. n ≤ 4 * a.spread + 6) r
  pub from_4096th : IsNarrow (IsMeasured a × (pos (2 ^ 36) ≤ℤ a.ends.lo)) (IsSqrtOf a.ends)
      (λ n. (low : ℕ) → r.ends.lo ≡ pos low → n * (2 * low) ≤ a.spread * 2 ^ 48 + 6 * (2 * low)) r
  pub low_end : IsMeasured a → pos (2 ^ 36) ≤ℤ a.ends.lo → IsNearRootBelow a.ends r.ends

-- where the bounds are at least 1/64, at most three times the argument's spread and six units
abbrev pub IsNarrowCbrt2 : Extent → Extent → Type 0
IsNarrowCbrt2 a r = IsNarrow (IsMeasured a × (pos (2 ^ 42) ≤ℤ a.ends.lo)) (IsCbrt2Of a.ends) (λ n. n ≤ 3 * a.spread + 6) r
