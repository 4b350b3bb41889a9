-- The local east and north at a place, Earth-fixed. The local up stands beside the day solutions.
use Rattle.exact.specs.Rational.{◌-ℚ◌, ◌*ℚ◌, neg_ℚ, zero_ℚ}
use Rattle.sgp4_model.specs.Angle.{Pair}
use Rattle.sgp4_model.specs.Vector.{Vector}

-- (- sin l, cos l, 0)
abbrev pub local_east : Pair → Vector
local_east lon = record { x = neg_ℚ lon.sine; y = lon.cosine; z = zero_ℚ }

-- (- sin f cos l, - sin f sin l, cos f)
abbrev pub local_north : Pair → Pair → Vector
local_north lat lon = record { x = neg_ℚ lat.sine *ℚ lon.cosine; y = neg_ℚ lat.sine *ℚ lon.sine; z = lat.cosine }

-- the difference of two vectors
abbrev pub difference : Vector → Vector → Vector
difference a b = record { x = a.x -ℚ b.x; y = a.y -ℚ b.y; z = a.z -ℚ b.z }
