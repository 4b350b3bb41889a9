-- When bounds meet the guards on the semilatus rectum and on the distance.
use Rattle.std.specs.Prelude.{◌^◌}
use Rattle.exact.specs.Rational.{ratio, zero_ℚ, ◌≤ℚ◌, ◌<ℚ◌}
use Rattle.fixed_iv.specs.declared.iv.Iv.{Iv}
use Rattle.sgp4_model.specs.Position.{least_distance}

-- the bounds lie above 0; those that are unbounded below do not
abbrev pub LieAbove0 : Iv → Type 0
LieAbove0 v = zero_ℚ <ℚ ratio v.lo (2 ^ 48)

-- the bounds are at least the least distance that is taken; those that are unbounded below are not
abbrev pub AreDistant : Iv → Type 0
AreDistant v = least_distance ≤ℚ ratio v.lo (2 ^ 48)
