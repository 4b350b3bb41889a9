-- A law of daylight, as a public function promises it.
use Rattle.std.specs.Prelude.{ℤ}
use Rattle.exact.specs.Rational.{ℚ}
use Rattle.sgp4_model.specs.DaySolution.{IsDaySolution}

-- each place has a day solution at each instant, with each offset
abbrev pub DaySolutionExists : Type 0
DaySolutionExists = (lat lon at : ℚ) (dut1 : ℤ) → (product : ℚ) × IsDaySolution lat lon at dut1 product
