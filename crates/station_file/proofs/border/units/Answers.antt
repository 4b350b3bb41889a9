use Rattle.std.proofs.Common.{arith, refl, pos, ◌≡◌, ◌^◌, ◌-◌, ◌∙◌, ap, sym}
use Rattle.std.proofs.lemmas.Int.{ints}
use Rattle.exact.specs.Rational.{ratio}
use Rattle.decimals.proofs.UnitsLemmas.{value_by_units}
use Rattle.station_file.proofs.BorderLemmas.{units_in_code, units_size}
use Rattle.station_file.proofs.border.units.Goals as goal

pub returns-clause-value : goal.returns-clause-value
returns-clause-value c =
    let number = c.args.number in
    let is = c.digits.ensures.decimal in
    let digits : c.from.result ≡ number.digits = omega (arith, ints, is.size) in
    let scale : c.from-3.result ≡ pos (10 ^ (18 - number.places)) = rw (c.from-3.ensures, c.pow.ensures, c.from-2.ensures, c.places.ensures.value) refl in
    value_by_units number is.most_places ∙ ap (λ t. ratio t (10 ^ 18)) (sym (units_in_code number c.from.result c.from-3.result is digits scale))

pub returns-clause-size : goal.returns-clause-size
returns-clause-size c =
    let number = c.args.number in
    let is = c.digits.ensures.decimal in
    let digits : c.from.result ≡ number.digits = omega (arith, ints, is.size) in
    let scale : c.from-3.result ≡ pos (10 ^ (18 - number.places)) = rw (c.from-3.ensures, c.pow.ensures, c.from-2.ensures, c.places.ensures.value) refl in
    rw (units_in_code number c.from.result c.from-3.result is digits scale) (units_size number is)
