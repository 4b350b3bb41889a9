-- Numbers of the recovery as the code forms them.
use Rattle.std.proofs.Common.{◌≡◌, [], pos}
use Rattle.exact.specs.Rational.{◌*ℚ◌, ratio}
use Rattle.exact.proofs.RationalRing.{ring, reads}
use Rattle.sgp4_model.specs.Numerals.{decimal}
use Rattle.sgp4_model.specs.Wgs72.{j2}

pub three_quarters : ratio (pos 811962) 1000000000 ≡ decimal 75 2 *ℚ j2
three_quarters = ring [] (search reads depth 90) tt
