-- A number of the bracket of pi.
use Rattle.std.proofs.Common.{[]}
use Rattle.exact.proofs.Intervals.{le_on}
use Rattle.exact.proofs.Order.{le_refl}
use Rattle.exact.proofs.RationalRing.{reads}
use Rattle.sgp4_model.specs.Angle.{IsPi, least_pi}

pub some_pi : IsPi least_pi
some_pi = record { low = le_refl least_pi; high = le_on 0 [] [] tt (search reads depth 90) tt }
