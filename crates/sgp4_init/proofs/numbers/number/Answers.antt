use Rattle.std.proofs.Common.{◌≡◌, arith, to_z, of_z}
use Rattle.std.proofs.lemmas.Int.{ints}
use mir.Syntax.{w128}
use Rattle.sgp4_init.proofs.NumberLemmas.{number_held}
use Rattle.sgp4_init.proofs.numbers.number.Goals as goal

pub returns : goal.returns
returns g c h =
    let num : to_z w128 (of_z w128 c.args.num) ≡ c.args.num = omega (arith, ints) in
    let den : to_z w128 (of_z w128 c.args.den) ≡ c.args.den = omega (arith, ints) in
    let tightest = rw (num, den) at c.from_ratio.ensures in
    number_held c.args.num c.args.den c.requires c.constant.ensures.covers c.constant.ensures.narrow tightest
