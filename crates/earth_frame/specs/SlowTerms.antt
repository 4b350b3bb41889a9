-- The sidereal angle in half turns, but for its steady turn from a base on.
use Rattle.std.specs.Prelude.{ℤ, pos, ◌^◌}
use Rattle.exact.specs.Rational.{ℚ, ◌+ℚ◌, ◌-ℚ◌, ◌*ℚ◌, ratio}
use Rattle.sgp4_model.specs.Sidereal.{centuries}
use Rattle.sgp4_model.specs.Time.{instant_of_nanos}
use Rattle.earth_frame.specs.Over.{instant_after}

-- the terms that are linear in time, at the base: (67310.54841 + 3164400184.812866 T) / 43200
abbrev pub start_half_turns : ℤ → ℚ
start_half_turns base =
    (ratio (pos 6731054841) (10 ^ 5) +ℚ ratio (pos 3164400184812866) (10 ^ 6) *ℚ centuries (instant_of_nanos base))
    *ℚ ratio (pos 1) 43200

-- these, and the terms in the square and the cube of the centuries at an instant after the base
abbrev pub slow_half_turns : ℤ → ℚ → ℚ
slow_half_turns base x =
    start_half_turns base
    +ℚ centuries (instant_after base x) *ℚ centuries (instant_after base x) *ℚ ratio (pos 93104) 43200000000
    -ℚ centuries (instant_after base x) *ℚ centuries (instant_after base x) *ℚ centuries (instant_after base x) *ℚ ratio (pos 62) 432000000000
