-- The ends of roots: whole units, rounded outward, the tolerance of 2^-60 included.
use Rattle.std.specs.Prelude.{◌≡◌, ℕ, ◌+◌, ◌*◌, ◌<◌, ◌≤◌, ℤ, pos, ◌≤ℤ◌, ◌<ℤ◌, ◌+ℤ◌, ◌-ℤ◌, ◌*ℤ◌}
use Rattle.fixed_iv.specs.Ends.{no_high}
use Rattle.fixed_iv.specs.declared.iv.Iv.{Iv}

-- the square root of n, rounded down
pub record IsWholeRoot (n root : ℕ) : Type 0 where
  pub under : root * root ≤ n
  pub over : n < (root + 1) * (root + 1)

-- the cube root of n, rounded down
pub record IsWholeCubeRoot (n root : ℕ) : Type 0 where
  pub under : root * root * root ≤ n
  pub over : n < (root + 1) * (root + 1) * (root + 1)

-- the square root of an end less 2^-60, rounded down; 0 where there is none
pub record IsLowSquareRoot (end root : ℤ) : Type 0 where
  pub sign : pos 0 ≤ℤ root
  pub none : end ≤ℤ pos 0 → root ≡ pos 0
  pub under : pos 0 <ℤ root → (root *ℤ root) ≤ℤ (end *ℤ pos 281474976710656 -ℤ pos 68719476736)
  pub over : (end *ℤ pos 281474976710656 -ℤ pos 68719476736) <ℤ ((root +ℤ pos 1) *ℤ (root +ℤ pos 1))

-- the square root of an end and 2^-60, the next unit above it; unbounded where the end is
pub record IsHighSquareRoot (end root : ℤ) : Type 0 where
  pub unbounded : no_high ≤ℤ end → root ≡ no_high
  pub bounded : end <ℤ no_high → root <ℤ no_high
  pub sign : pos 0 <ℤ root
  pub under : end <ℤ no_high → ((root -ℤ pos 1) *ℤ (root -ℤ pos 1)) ≤ℤ (end *ℤ pos 281474976710656 +ℤ pos 68719476736)
  pub over : end <ℤ no_high → (end *ℤ pos 281474976710656 +ℤ pos 68719476736) <ℤ (root *ℤ root)

-- the cube root of the square of an end less 2^-60, rounded down; 0 where there is none
pub record IsLowCubeRoot (end root : ℤ) : Type 0 where
  pub sign : pos 0 ≤ℤ root
  pub none : end ≤ℤ pos 0 → root ≡ pos 0
  pub under : pos 0 <ℤ root → (root *ℤ root *ℤ root) ≤ℤ (end *ℤ end *ℤ pos 281474976710656 -ℤ pos 19342813113834066795298816)
  pub over : pos 0 <ℤ end → (end *ℤ end *ℤ pos 281474976710656 -ℤ pos 19342813113834066795298816) <ℤ ((root +ℤ pos 1) *ℤ (root +ℤ pos 1) *ℤ (root +ℤ pos 1))

-- the cube root of the square of an end and 2^-60, the next unit above it; unbounded where the end is
pub record IsHighCubeRoot (end root : ℤ) : Type 0 where
  pub unbounded : no_high ≤ℤ end → root ≡ no_high
  pub bounded : end <ℤ no_high → root <ℤ no_high
  pub sign : pos 0 <ℤ root
  pub under : end <ℤ no_high → ((root -ℤ pos 1) *ℤ (root -ℤ pos 1) *ℤ (root -ℤ pos 1)) ≤ℤ (end *ℤ end *ℤ pos 281474976710656 +ℤ pos 19342813113834066795298816)
  pub over : end <ℤ no_high → (end *ℤ end *ℤ pos 281474976710656 +ℤ pos 19342813113834066795298816) <ℤ (root *ℤ root *ℤ root)

-- both ends of an interval of square roots
pub record AreSquareRootEnds (x roots : Iv) : Type 0 where
  pub low : IsLowSquareRoot x.lo roots.lo
  pub high : IsHighSquareRoot x.hi roots.hi

-- both ends of an interval of cube roots of squares
pub record AreCubeRootEnds (x roots : Iv) : Type 0 where
  pub low : IsLowCubeRoot x.lo roots.lo
  pub high : IsHighCubeRoot x.hi roots.hi
