-- The ranges of an orbit.
use Rattle.std.specs.Prelude.{pos, neg_ℤ}
use Rattle.exact.specs.Rational.{of_int, ◌≤ℚ◌, ◌<ℚ◌}
use Rattle.decimals.specs.Decimal.{value}
use Rattle.elements.specs.Elements.{IsFromTo}
use Rattle.omm_kvn.specs.declared.orbit.Orbit.{Orbit}

-- the numbers of an orbit are those of an element set
pub record IsOrbit (orbit : Orbit) : Type 0 where
  pub motion : of_int (pos 0) <ℚ value orbit.motion
  pub ecc : of_int (pos 0) ≤ℚ value orbit.ecc
  pub ecc_below : value orbit.ecc <ℚ of_int (pos 1)
  pub incl : IsFromTo (pos 0) (pos 180) (value orbit.incl)
  pub node : IsFromTo (neg_ℤ (pos 360)) (pos 360) (value orbit.node)
  pub argp : IsFromTo (neg_ℤ (pos 360)) (pos 360) (value orbit.argp)
  pub anomaly : IsFromTo (neg_ℤ (pos 360)) (pos 360) (value orbit.anomaly)
