-- When the bounds of the eccentricity, before it is raised, and those of the semimajor axis are inside their guards.
use Rattle.std.specs.Prelude.{◌^◌}
use Rattle.exact.specs.Rational.{one_ℚ, ratio, ◌≤ℚ◌}
use Rattle.fixed_iv.specs.declared.iv.Iv.{Iv}
use Rattle.sgp4_model.specs.MeanElements.{IsEccentricityGuarded}

-- both ends meet the guard, the lower from below and the upper from above; an end that is unbounded does not
pub record IsInsideGuard (v : Iv) : Type 0 where
  pub low : IsEccentricityGuarded (ratio v.lo (2 ^ 48))
  pub high : IsEccentricityGuarded (ratio v.hi (2 ^ 48))

-- the bounds are at least 1; those that are unbounded below are not
abbrev pub AreAtLeast1 : Iv → Type 0
AreAtLeast1 v = one_ℚ ≤ℚ ratio v.lo (2 ^ 48)
