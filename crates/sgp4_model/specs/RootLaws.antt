-- Laws of roots, as public functions promise them.
use Rattle.std.specs.Prelude.{pos}
use Rattle.exact.specs.Rational.{ℚ, ◌+ℚ◌, ◌*ℚ◌, ratio, zero_ℚ, ◌≤ℚ◌, ◌<ℚ◌}
use Rattle.sgp4_model.specs.Angle.{IsNear, part}
use Rattle.sgp4_model.specs.Root.{IsSqrt, IsCbrt2}

-- each number that is not negative has a square root
abbrev pub SquareRootExists : Type 0
SquareRootExists = (x : ℚ) → zero_ℚ ≤ℚ x → (r : ℚ) × IsSqrt x r

-- the square of each positive number has a cube root
abbrev pub CubeRootExists : Type 0
CubeRootExists = (x : ℚ) → zero_ℚ <ℚ x → (r : ℚ) × IsCbrt2 x r

-- where two numbers differ by at most d, and both are at least the square of l and 2^-60, their square roots differ by at most
-- (d + 2^-59) / (2 l)
abbrev pub SquareRootsAreLipschitz : Type 0
SquareRootsAreLipschitz =
    (x y r t d l : ℚ) → zero_ℚ ≤ℚ l → l *ℚ l +ℚ part 60 ≤ℚ x → l *ℚ l +ℚ part 60 ≤ℚ y → IsNear d x y → IsSqrt x r → IsSqrt y t →
    IsNear (d +ℚ part 59) (ratio (pos 2) 1 *ℚ l *ℚ r) (ratio (pos 2) 1 *ℚ l *ℚ t)
