use Rattle.std.proofs.Common.{arith}
use Rattle.tle_read.proofs.NumberLemmas.{below_power}
use Rattle.tle_read.proofs.fields.eccentricity_of.Goals as goal

pub make-requires : goal.make-requires
make-requires c =
    let seven = below_power _ _ 7 c.number.ensures.bound (omega (arith, c.without_spaces-digits.ensures.len)) in
    record { digits = omega arith; places = omega arith }

pub returns-clause-below_one : goal.returns-clause-below_one
returns-clause-below_one c =
    rw c.make.ensures (below_power _ _ 7 c.number.ensures.bound (omega (arith, c.without_spaces-digits.ensures.len)))
