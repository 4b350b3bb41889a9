-- Laws of Kepler's equation, as public functions promise them.
use Rattle.exact.specs.Rational.{ℚ, ◌+ℚ◌, abs_ℚ, one_ℚ, ◌<ℚ◌}
use Rattle.sgp4_model.specs.Angle.{IsPi, Pair}
use Rattle.sgp4_model.specs.Kepler.{SolvesKepler}

-- where the components of the eccentricity vector are less than 1 in all, Kepler's equation has a root, with each pi
abbrev pub KeplerRootExists : Type 0
KeplerRootExists = (pi u ax ay : ℚ) → IsPi pi → abs_ℚ ax +ℚ abs_ℚ ay <ℚ one_ℚ → (root : ℚ) × ((turn : Pair) × SolvesKepler pi u ax ay root turn)
