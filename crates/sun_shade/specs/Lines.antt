-- The lines of the shadow's numbers that are computed, each in any arithmetic.
use Rattle.fixed_iv.specs.Arithmetic.{Arithmetic}

module _ (N : Arithmetic) where
  open N use {Number, ◌+◌, ◌-◌, ◌*◌, whole}

  -- the depth of a position along a direction: their inner product
  abbrev pub depth : (x y z a b c : Number) → Number
  depth x y z a b c = x * a + y * b + z * c

  -- the height over a cylinder of radius 1 about that direction: r . r - p^2 - 1
  abbrev pub height : (x y z p : Number) → Number
  height x y z p = x * x + y * y + z * z - p * p - whole 1
