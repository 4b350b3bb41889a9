-- Vectors of exact numbers.
use Rattle.exact.specs.Rational.{ℚ, ◌+ℚ◌, ◌*ℚ◌}

pub record Vector : Type 0 where
  pub x : ℚ
  pub y : ℚ
  pub z : ℚ

-- the inner product
abbrev pub inner_product : Vector → Vector → ℚ
inner_product a b = a.x *ℚ b.x +ℚ a.y *ℚ b.y +ℚ a.z *ℚ b.z
