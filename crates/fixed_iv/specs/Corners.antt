-- Words of the private steps: how ends are cut, what lies between them, and which products and quotients are reached.
-- No public contract cites them.
use Rattle.std.specs.Prelude.{◌≡◌, ℤ, pos, neg_ℤ, ◌≤ℤ◌, ◌<ℤ◌, ◌+ℤ◌, ◌-ℤ◌, ◌*ℤ◌, ◌⊎◌}
use Rattle.exact.specs.Rational.{ℚ, ◌*ℚ◌, of_int, ◌≤ℚ◌}
use Rattle.fixed_iv.specs.Ends.{no_low, no_high, first_end, last_end}
use Rattle.fixed_iv.specs.declared.iv.Iv.{Iv}

-- a lower end: past the last bound it is the last bound, before the first it is unbounded
pub record IsCutLow (low lo : ℤ) : Type 0 where
  pub past : last_end <ℤ low → lo ≡ last_end
  pub before : low <ℤ first_end → lo ≡ no_low
  pub between : first_end ≤ℤ low → low ≤ℤ last_end → lo ≡ low

-- an upper end: past the last bound it is unbounded, before the first it is the first bound
pub record IsCutHigh (high hi : ℤ) : Type 0 where
  pub past : last_end <ℤ high → hi ≡ no_high
  pub before : high <ℤ first_end → hi ≡ first_end
  pub between : first_end ≤ℤ high → high ≤ℤ last_end → hi ≡ high

-- the lower end of a sum, made from two lower ends
pub record IsLowSum (a b lo : ℤ) : Type 0 where
  pub bounded : no_low <ℤ a → no_low <ℤ b → IsCutLow (a +ℤ b) lo
  pub left : a ≤ℤ no_low → lo ≡ no_low
  pub right : b ≤ℤ no_low → lo ≡ no_low

-- the upper end of a sum, made from two upper ends
pub record IsHighSum (a b hi : ℤ) : Type 0 where
  pub bounded : a <ℤ no_high → b <ℤ no_high → IsCutHigh (a +ℤ b) hi
  pub left : no_high ≤ℤ a → hi ≡ no_high
  pub right : no_high ≤ℤ b → hi ≡ no_high

-- the lower end of a difference, made from a lower end and an upper end
pub record IsLowDifference (a b lo : ℤ) : Type 0 where
  pub bounded : no_low <ℤ a → b <ℤ no_high → IsCutLow (a -ℤ b) lo
  pub left : a ≤ℤ no_low → lo ≡ no_low
  pub right : no_high ≤ℤ b → lo ≡ no_low

-- the upper end of a difference, made from an upper end and a lower end
pub record IsHighDifference (a b hi : ℤ) : Type 0 where
  pub bounded : a <ℤ no_high → no_low <ℤ b → IsCutHigh (a -ℤ b) hi
  pub left : no_high ≤ℤ a → hi ≡ no_high
  pub right : b ≤ℤ no_low → hi ≡ no_high

-- the size of a product of two ends is at most 2^126
pub record IsProductSize (n : ℤ) : Type 0 where
  pub least : neg_ℤ (pos 85070591730234615865843651857942052864) ≤ℤ n
  pub most : n ≤ℤ pos 85070591730234615865843651857942052864

-- an end or its negative, in a wider type
pub record IsEndSize (n : ℤ) : Type 0 where
  pub least : neg_ℤ (pos 9223372036854775808) ≤ℤ n
  pub most : n ≤ℤ pos 9223372036854775808

-- a number that is a dividend from low to high over a divisor from least to most, all in one unit
pub record IsQuotientBetween (low high least most : ℤ) (x : ℚ) : Type 0 where
  pub dividend : ℚ
  pub divisor : ℚ
  pub from_low : of_int low ≤ℚ dividend
  pub to_high : dividend ≤ℚ of_int high
  pub from_least : of_int least ≤ℚ divisor
  pub to_most : divisor ≤ℚ of_int most
  pub is : x *ℚ divisor ≡ dividend

-- the least of the four products of an end and an end
pub record IsLowCorner (a b : Iv) (corner : ℤ) : Type 0 where
  pub low_low : corner ≤ℤ (a.lo *ℤ b.lo)
  pub low_high : corner ≤ℤ (a.lo *ℤ b.hi)
  pub high_low : corner ≤ℤ (a.hi *ℤ b.lo)
  pub high_high : corner ≤ℤ (a.hi *ℤ b.hi)
  pub is : ((corner ≡ a.lo *ℤ b.lo) ⊎ (corner ≡ a.lo *ℤ b.hi)) ⊎ ((corner ≡ a.hi *ℤ b.lo) ⊎ (corner ≡ a.hi *ℤ b.hi))

-- the greatest of the four products of an end and an end
pub record IsHighCorner (a b : Iv) (corner : ℤ) : Type 0 where
  pub low_low : (a.lo *ℤ b.lo) ≤ℤ corner
  pub low_high : (a.lo *ℤ b.hi) ≤ℤ corner
  pub high_low : (a.hi *ℤ b.lo) ≤ℤ corner
  pub high_high : (a.hi *ℤ b.hi) ≤ℤ corner
  pub is : ((corner ≡ a.lo *ℤ b.lo) ⊎ (corner ≡ a.lo *ℤ b.hi)) ⊎ ((corner ≡ a.hi *ℤ b.lo) ⊎ (corner ≡ a.hi *ℤ b.hi))

-- one of two numbers, by the sign of a third
pub record IsBySign (number of_negative of_other result : ℤ) : Type 0 where
  pub negative : number <ℤ pos 0 → result ≡ of_negative
  pub other : pos 0 ≤ℤ number → result ≡ of_other
