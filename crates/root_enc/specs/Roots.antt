-- What intervals of roots hold, and how near their ends are.
use Rattle.std.specs.Prelude.{◌≡◌, pos, ◌≤ℤ◌, ◌+ℤ◌, ◌-ℤ◌, ◌*ℤ◌}
use Rattle.exact.specs.Rational.{ℚ, of_int, ◌≤ℚ◌}
use Rattle.sgp4_model.specs.Root.{IsSqrt, IsCbrt2}
use Rattle.fixed_iv.specs.Ends.{in_units}
use Rattle.fixed_iv.specs.Holds.{Holds, IsBounded}
use Rattle.fixed_iv.specs.declared.iv.Iv.{Iv}

-- each square root of each number that x holds is held
abbrev pub HoldSquareRoots : Iv → Iv → Type 0
HoldSquareRoots x roots = (number root : ℚ) → Holds x number → IsSqrt number root → Holds roots root

-- each cube root of the square of each number that x holds is held
abbrev pub HoldCubeRoots : Iv → Iv → Type 0
HoldCubeRoots x roots = (number root : ℚ) → Holds x number → IsCbrt2 number root → Holds roots root

-- The ends are bounds, and lie within two units of the square roots of the ends of x. In whole numbers: the square of
-- two units more is past the end of x, that of two units less before it, each by the tolerance of 2^-60. Squares
-- count units of 2^-96.
pub record AreNearSquareRoots (x roots : Iv) : Type 0 where
  pub bounded : IsBounded roots
  pub low_within : (number root : ℚ) → in_units number ≡ of_int x.lo → IsSqrt number root → in_units root ≤ℚ of_int (roots.lo +ℤ pos 2)
  pub low_sign : pos 0 ≤ℤ roots.lo
  pub low_square : (x.lo *ℤ pos 281474976710656 +ℤ pos 68719476736) ≤ℤ ((roots.lo +ℤ pos 2) *ℤ (roots.lo +ℤ pos 2))
  pub high_within : (number root : ℚ) → in_units number ≡ of_int x.hi → IsSqrt number root → of_int (roots.hi -ℤ pos 2) ≤ℚ in_units root
  pub high_sign : pos 2 ≤ℤ roots.hi
  pub high_square : ((roots.hi -ℤ pos 2) *ℤ (roots.hi -ℤ pos 2)) ≤ℤ (x.hi *ℤ pos 281474976710656 -ℤ pos 68719476736)

-- The ends are bounds, and lie within two units of the cube roots of the squares of the ends of x. In whole numbers:
-- the cube of two units more is past that square, that of two units less before it, each by the tolerance of 2^-60.
-- Cubes count units of 2^-144.
pub record AreNearCubeRoots (x roots : Iv) : Type 0 where
  pub bounded : IsBounded roots
  pub low_within : (number root : ℚ) → in_units number ≡ of_int x.lo → IsCbrt2 number root → in_units root ≤ℚ of_int (roots.lo +ℤ pos 2)
  pub low_sign : pos 0 ≤ℤ roots.lo
  pub low_cube : (x.lo *ℤ x.lo *ℤ pos 281474976710656 +ℤ pos 19342813113834066795298816) ≤ℤ ((roots.lo +ℤ pos 2) *ℤ (roots.lo +ℤ pos 2) *ℤ (roots.lo +ℤ pos 2))
  pub high_within : (number root : ℚ) → in_units number ≡ of_int x.hi → IsCbrt2 number root → of_int (roots.hi -ℤ pos 2) ≤ℚ in_units root
  pub high_sign : pos 2 ≤ℤ roots.hi
  pub high_cube : ((roots.hi -ℤ pos 2) *ℤ (roots.hi -ℤ pos 2) *ℤ (roots.hi -ℤ pos 2)) ≤ℤ (x.hi *ℤ x.hi *ℤ pos 281474976710656 -ℤ pos 19342813113834066795298816)
