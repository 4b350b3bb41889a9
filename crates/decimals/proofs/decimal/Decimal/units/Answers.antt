use Rattle.std.proofs.Common.{arith, refl, pos, ◌≡◌, ◌^◌, ◌-◌}
use Rattle.std.proofs.lemmas.Int.{ints}
use Rattle.decimals.specs.Units.{units}
use Rattle.decimals.proofs.UnitsLemmas.{product_in_code, ten_pow_fits}
use Rattle.decimals.proofs.decimal.Decimal.units.Goals as goal

pub returns-clause-value : goal.returns-clause-value
unfolding units
returns-clause-value c =
    let digits : c.from.result ≡ c.args.self.digits = omega (arith, ints, c.digits.ensures.decimal.size) in
    let scale : c.from-2.result ≡ pos (10 ^ (18 - c.args.self.places)) = rw (c.from-2.ensures, c.power_of_ten.ensures, c.places.ensures.value) refl in
    product_in_code c.args.self.digits c.from.result c.from-2.result (10 ^ (18 - c.args.self.places)) c.digits.ensures.decimal.size (ten_pow_fits (18 - c.args.self.places) (omega arith)) digits scale
