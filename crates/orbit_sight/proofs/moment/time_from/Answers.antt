use Rattle.std.proofs.Common.{◌≡◌, arith, to_z, of_z, ◌-ℤ◌}
use Rattle.std.proofs.lemmas.Int.{ints}
use Rattle.std.specs.Int.{w128}
use Rattle.orbit_sight.proofs.moment.time_from.Goals as goal

pub returns : goal.returns
returns c =
    let given : c.from.result ≡ c.args.at -ℤ c.args.epoch = omega (arith, ints, c.from.ensures, c.nanos_from.ensures.size, c.nanos_from.ensures.value) in
    let wide : to_z w128 (of_z w128 c.from.result) ≡ c.args.at -ℤ c.args.epoch = omega (arith, ints, given, c.nanos_from.ensures.size, c.nanos_from.ensures.value) in
    rw wide at c.from_ratio.ensures
