-- The lines of the density of the air, each in any arithmetic (Spacetrack Report No. 3, 1980, SGP4; AIAA 2006-6753,
-- appendix). Lengths are in Earth radii.
use Rattle.std.specs.Prelude.{ℕ, ℤ, pos}
use Rattle.fixed_iv.specs.Arithmetic.{Arithmetic}
use Rattle.sgp4_init.specs.Ratios.{ratio as ratio_in, whole as whole_in}

module _ (N : Arithmetic) where
  open N use {Number, ◌-◌, ◌*◌}

  abbrev ratio : ℤ → ℕ → Number
  ratio = ratio_in N

  abbrev whole : ℕ → Number
  whole = whole_in N

  -- a radius less s, which is 78 km above an Earth radius
  abbrev pub above_base : (radius : Number) → Number
  above_base radius = radius - ratio (pos 6456135) 6378135

  -- q less s, 42 km, times a number
  abbrev pub in_scale : (x : Number) → Number
  in_scale x = ratio (pos 42000) 6378135 * x

  -- the fourth power of that
  abbrev pub fourth_power : (x : Number) → Number
  fourth_power x = in_scale x * in_scale x * (in_scale x * in_scale x)

  -- 1 - eta^2
  abbrev pub less_square : (eta : Number) → Number
  less_square eta = whole 1 - eta * eta
